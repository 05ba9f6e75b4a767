-- Laws that the proofs of `wrongs` share.
pub mod ToldWrong
