-- What the functions of the run come to.
pub mod Adding
pub mod Taking
