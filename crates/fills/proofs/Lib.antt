-- Laws that the proofs of `fills` share.
pub mod Stepping
pub mod Passing
pub mod Ways
pub mod Stopping
pub mod Running
