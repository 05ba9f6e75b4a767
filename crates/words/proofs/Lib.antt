-- Laws that the proofs of `words` share.
pub mod Laying
pub mod Wholes
pub mod Marks
