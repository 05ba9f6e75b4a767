-- What the functions below the call come to (Placed).
pub mod Placed
