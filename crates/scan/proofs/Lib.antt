-- Laws that the proofs of `scan` share.
pub mod Numbers
