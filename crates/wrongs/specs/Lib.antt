-- What is told to be wrong.
pub mod Wrongs
