-- How many moves a reading takes at most: the words' definitions (Strides), worked cases (Cases), the page (Striding) and its proof (StrideLaws, from LeftLaws
-- and PayLaws).
pub mod Strides
pub mod LeftLaws
pub mod PayLaws
pub mod Cases
