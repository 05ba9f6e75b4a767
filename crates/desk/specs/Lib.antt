-- Where two lists of bytes part (Partings), and its laws.
pub mod Partings
pub mod PartingLaws
