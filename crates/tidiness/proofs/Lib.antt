-- The plain form as a call hands it out: the page (Tidiness) and its proof (SaidWants, TidyLaws). They rest on definitions of specs/ that edits change.
pub mod SaidWants
pub mod TidyLaws
pub mod Tidiness
