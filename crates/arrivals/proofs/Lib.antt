-- Laws that the proofs of this crate share.
pub mod Sending
pub mod Closing
