-- A text that arrives in parts: what a part leaves (Parts), that the parts are kept (Keeping), what the finish answers (Finishes) and worked cases (Cases).
-- The page (Cutting) and its proof stand in proofs/.
pub mod Parts
pub mod Keeping
pub mod Finishes
pub mod Cases
