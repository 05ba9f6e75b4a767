-- The proof of Joined. Nothing that it states rests on this.
pub mod Elements
pub mod Bytes
pub mod Moves
pub mod Meets
pub mod Texts
pub mod Seams
pub mod Calls
