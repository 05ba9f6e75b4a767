-- Joined texts: the page (Joined), its proof (Device), and how many arguments a join wants (Wanting). They rest on definitions of specs/ that edits change.
pub mod Device
pub mod Wanting
pub mod Joined
