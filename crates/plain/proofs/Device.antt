-- The proof of PlainlyLaws. Nothing that it states rests on this.
pub mod Digits
pub mod Elements
pub mod Says
pub mod Same
pub mod Forms
pub mod Codes
pub mod Lengths
pub mod Texts
pub mod Frames
