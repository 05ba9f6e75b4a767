-- What is written of two plain forms.
pub mod Likeness
