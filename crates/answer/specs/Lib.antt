-- What the functions that decide a call come to, and laws of it.
pub mod Refusals
pub mod Decisions
pub mod DecisionLaws
pub mod Asking
pub mod AskedLaws
