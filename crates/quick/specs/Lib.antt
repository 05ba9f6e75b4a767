-- What the numbers mean in which a placeholder is told.
pub mod Tellings
pub mod PartsTold
