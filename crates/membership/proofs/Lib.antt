-- The page of member templates (Membership) and why it holds (VerdictLaws). They stand here and not in specs/, so that the edit of a definition is read.
pub mod VerdictLaws
pub mod Membership
