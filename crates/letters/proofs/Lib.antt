-- Laws that the proofs share.
pub mod Bracket
pub mod Stops
pub mod SmallLetters
