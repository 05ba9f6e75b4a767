-- Laws that the proofs of this crate share.
pub mod Filling
pub mod Lining
