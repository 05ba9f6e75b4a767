-- A walk over what a step found wrong.
pub mod Slots
