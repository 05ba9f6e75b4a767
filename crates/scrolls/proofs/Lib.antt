-- Why the page Scrolling holds of every reading (ScrollLaws). It stands here and not in specs/, so that the edit of a definition is read.
pub mod ScrollLaws
