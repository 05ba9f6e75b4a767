-- What a caller reads back from the numbers (Back): each part of a placeholder fits (FitLaws), so every record of a reading does (ReadingLaws). That what is
-- read back is the record, and a done call's too, stands in proofs/.
pub mod Back
pub mod FitLaws
pub mod ReadingLaws
