-- Records added to a lent list (Lent), and a call (Reads).
pub mod Lent
pub mod Reads
