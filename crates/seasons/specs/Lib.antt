-- The season's count: a text's totals (Totals), a list of texts (Season, Rests), worked cases (Cases), and laws of totals (TotalLaws). The page (Seasons)
-- and its proof stand in proofs/.
pub mod Totals
pub mod Season
pub mod Rests
pub mod Cases
pub mod TotalLaws
