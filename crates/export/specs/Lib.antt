-- The calls, and what their parts come to.
pub mod Parts
