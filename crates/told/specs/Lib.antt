-- What is told of a placeholder, as it is written.
pub mod Told
