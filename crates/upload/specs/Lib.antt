-- What the finish asks (Asks), and that its answer is the finish's (AskLaws).
pub mod Asks
pub mod AskLaws
