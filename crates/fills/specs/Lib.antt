-- What a text's filled lists hold.
pub mod Filling
pub mod Lane
