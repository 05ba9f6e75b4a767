-- Laws that the proofs of `quick` share.
pub mod Bytes
pub mod Numbers
pub mod Parts
pub mod Specs
pub mod Endings
pub mod Wholes
