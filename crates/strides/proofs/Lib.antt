-- The page (Striding) and its proof (StrideLaws, from LeftLaws and PayLaws of specs/).
pub mod StrideLaws
pub mod Striding
