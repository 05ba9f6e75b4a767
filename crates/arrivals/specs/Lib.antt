-- The calls (Calls), that a finish of parts that are kept is the call on the joined text (Same), and that they leave no choice (OneAnswer).
pub mod Calls
pub mod Same
pub mod OneAnswer
