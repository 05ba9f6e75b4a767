-- How much the totals grow by one text.
pub mod Growing
