-- What a caller reads back is the record (BackLaws), and so are a reading's lists (CallBack), and a done call's (DoneCall). They stand here and not in
-- specs/, so that the edit of how numbers are read is read.
pub mod BackLaws
pub mod CallBack
pub mod DoneCall
