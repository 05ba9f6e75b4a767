-- Definitions of what stands between the braces, and bounds of it.
pub mod Filling
pub mod Places
pub mod Parts
pub mod Types
pub mod Format
pub mod Specs
pub mod Arguments
pub mod BoundLaws
