-- A run over the steps, a piece or a fault at a time, and its laws.
pub mod Turns
pub mod TurnLaws
