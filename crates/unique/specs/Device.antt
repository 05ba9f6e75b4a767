-- The device of demand 3's proof: a parser over lists of codes that gives elements, held to the grammar on one side and to the reading on
-- the other. Nothing that demand 3 states rests on it.
pub mod Runs
pub mod Classes
pub mod Parser
pub mod Made
pub mod Given
pub mod Splits
pub mod Unique
pub mod Stands
pub mod Spans
pub mod Words
pub mod Places
pub mod Parts
pub mod Types
pub mod Specs
pub mod Arguments
pub mod Steps
pub mod Whole
pub mod Bytes
pub mod Readings
pub mod Numbers
pub mod Within
pub mod Alone
pub mod Covering
pub mod AnyFrame
