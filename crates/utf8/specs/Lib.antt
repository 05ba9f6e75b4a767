-- Definitions, each file followed by the file of its laws.
pub mod Choice
pub mod ChoiceLaws
pub mod Table37
pub mod Utf8
pub mod DecodeLaws
pub mod Chars
pub mod CharLaws
pub mod Utf8Laws
pub mod Encode
pub mod EncodeLaws
pub mod Blocks
pub mod BlockLaws
pub mod CountLaws
