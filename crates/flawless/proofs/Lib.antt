-- Laws that the proofs of `flawless` share.
pub mod Closing
pub mod Shortening
