-- Member templates: the words' definitions (Members), the verdict (Verdicts), worked cases (Cases), and laws of the first of a sort (FirstLaws). The page
-- (Membership) and its proof (VerdictLaws) stand in proofs/.
pub mod Members
pub mod Verdicts
pub mod Cases
pub mod FirstLaws
