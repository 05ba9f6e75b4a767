-- Laws that the proofs of `answer` share.
pub mod Decisions
