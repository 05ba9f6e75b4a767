-- The page (Demand) and its definitions (Grammar, Pieces, Numbering, Cover, Ranges, Spanless); worked cases, by the definitions alone (Cases).
pub mod Grammar
pub mod Pieces
pub mod Numbering
pub mod Ranges
pub mod Cover
pub mod Demand
pub mod Cases
pub mod Spanless
