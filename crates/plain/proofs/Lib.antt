-- One way to write a template: the page (PlainlyLaws) and its proof (Device). They rest on definitions of specs/ that edits change.
pub mod Device
pub mod PlainlyLaws
