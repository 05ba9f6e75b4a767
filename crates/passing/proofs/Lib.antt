-- Laws that the proofs of `passing` share.
pub mod Afters
pub mod Stepping
pub mod Passings
