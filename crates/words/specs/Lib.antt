-- The layout of a record, and the calls for other languages.
pub mod Laid
pub mod Layout
pub mod Calls
pub mod LaidLaws
