-- Laws that the proofs of this crate share.
pub mod Rooms
pub mod Clears
pub mod Runs
pub mod Whole
pub mod Takings
