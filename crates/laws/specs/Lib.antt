-- What holds of every reading.
pub mod StepLaws
pub mod WalkLaws
pub mod Numbered
pub mod WantLaws
pub mod StateLaws
pub mod MoveLaws
pub mod FaultLaws
pub mod RecordLaws
pub mod LineLaws
pub mod ListLaws
pub mod Counting
pub mod OrderLaws
pub mod PaidLaws
pub mod RoomLaws
pub mod Deciding
pub mod AnswerLaws
pub mod BrokenLaws
