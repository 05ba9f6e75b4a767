-- What the contracts of `frame` cite, and laws for its callers.
pub mod Places
pub mod Frames
pub mod Spans
pub mod Bounds
pub mod Modes
pub mod FrameLaws
pub mod Examples
