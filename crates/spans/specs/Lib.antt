-- What the functions that write spans come to.
pub mod Fills
