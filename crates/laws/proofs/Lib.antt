-- What is proved of definitions that edits change (specs/MoveLaws).
pub mod MovesTold
