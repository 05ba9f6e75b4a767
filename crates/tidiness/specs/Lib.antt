-- The plain form as a call hands it out: the definitions (Tidies), worked cases (Cases). The page (Tidiness) and its proof are in proofs/.
pub mod Tidies
pub mod Cases
