-- One way to write a template: what pieces say (Said), its plain form (Plain), both of a text (Plainly), worked cases (Cases). The page (PlainlyLaws)
-- and its proof (Device) are in proofs/.
pub mod Said
pub mod Plain
pub mod Plainly
pub mod Cases
