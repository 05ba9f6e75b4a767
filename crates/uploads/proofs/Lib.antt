-- The page of texts in parts (Cutting) and its proof (PartLaws, FinishLaws). They stand here and not in specs/, so that the edit of a definition is read.
pub mod PartLaws
pub mod FinishLaws
pub mod Cutting
