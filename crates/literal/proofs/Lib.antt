-- Laws that the proofs of `literal` share.
pub mod Literals
