-- What a call takes and gives (Wants, Steps, Faults, Records, Lines, Lists, Moves, Texts, Answers, Exits, Calls), and computed cases (Cases, Bench).
pub mod Wants
pub mod Steps
pub mod Faults
pub mod Records
pub mod Lines
pub mod Lists
pub mod Moves
pub mod Written
pub mod Answers
pub mod Exits
pub mod Calls
pub mod Texts
pub mod Cases
pub mod Bench
