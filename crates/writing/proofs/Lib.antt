-- Laws of what is noted and stepped, for the proofs here and in `fills`.
pub mod Overlays
pub mod Noting
pub mod Walking
pub mod Stepping
