-- Laws that the proofs of this crate share.
pub mod Names
pub mod Meeting
pub mod Opening
pub mod Clearing
