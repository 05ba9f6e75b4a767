-- What the contracts of `scan` cite, laws for its callers, and worked examples.
pub mod Characters
pub mod Ends
pub mod Words
pub mod Wrapping
pub mod Counts
pub mod ScanLaws
pub mod AsciiWordLaws
pub mod ReachLaws
pub mod Examples
