-- How a placeholder ends in which nothing is wrong, and what a short spec tells.
pub mod Closed
pub mod Short
