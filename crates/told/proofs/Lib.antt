-- Laws that the proofs of `told` share.
pub mod Spoiling
pub mod Telling
