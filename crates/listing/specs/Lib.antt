-- What a listing is made of: shapes with their numbers (Shapes), the parts of a record (Parts), its line in full (Lines).
pub mod Shapes
pub mod Parts
pub mod Lines
