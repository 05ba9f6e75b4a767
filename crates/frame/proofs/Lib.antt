-- Laws that the proofs of `frame` share.
pub mod Same
pub mod Literal
