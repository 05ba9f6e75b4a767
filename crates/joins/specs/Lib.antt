-- Joined texts: the words' definitions (Joins), worked cases (Cases). The page (Joined), how many arguments a join wants (Wanting) and the proof
-- (Device) are in proofs/.
pub mod Joins
pub mod Cases
