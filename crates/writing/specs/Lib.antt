-- What the functions that write a step come to.
pub mod StepsWritten
