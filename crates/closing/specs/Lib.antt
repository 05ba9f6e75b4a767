-- Definitions (Defaults, Recovery, Wholes), how recovery is decided (Recovering), and how far reading goes (OnwardLaws).
pub mod Defaults
pub mod Recovery
pub mod Recovering
pub mod Wholes
pub mod OnwardLaws
