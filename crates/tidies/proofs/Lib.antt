-- That the call is the functions below it (PlacedLaws), by the pages of plain and tidiness.
pub mod PlacedLaws
