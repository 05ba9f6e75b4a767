-- Where an editor scrolls for an error: the page (Scrolling), worked cases (ScrollCases), and laws (AmongLaws, FoundLaws). Why it holds (ScrollLaws)
-- stands in proofs/.
pub mod AmongLaws
pub mod FoundLaws
pub mod Scrolling
pub mod ScrollCases
