-- The page of the season's count (Seasons) and its proof (SeasonLaws, FewLaws). They stand here and not in specs/, so that the edit of a definition is read.
pub mod SeasonLaws
pub mod FewLaws
pub mod Seasons
