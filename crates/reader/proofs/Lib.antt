-- Laws that the proofs of this crate share.
pub mod Calling
pub mod Filling
pub mod Runs
pub mod Shift
pub mod Fresh
