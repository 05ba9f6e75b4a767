-- Laws that the proofs of `export` share.
pub mod Listing
pub mod Calling
pub mod Bare
