-- Laws that the proofs of `listing` share.
pub mod Dashes
pub mod Joins
