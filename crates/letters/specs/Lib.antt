-- Definitions, each file followed by the file of its laws.
pub mod Table
pub mod Compared
pub mod TableLaws
pub mod PartLaws
pub mod Space
pub mod Start
pub mod Continue
pub mod Frequent
pub mod Ascii
pub mod Questions
pub mod QuestionLaws
pub mod AsciiLaws
