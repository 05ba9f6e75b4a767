-- The theorems (Demand3), the device of their proof (Device), and worked cases through the parser of the proof (Examples).
pub mod Device
pub mod Demand3
pub mod Examples
