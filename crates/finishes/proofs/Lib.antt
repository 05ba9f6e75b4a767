-- A law that the walk cites.
pub mod Finishing
