-- What the functions of `passing` promise.
pub mod After
pub mod Clear
