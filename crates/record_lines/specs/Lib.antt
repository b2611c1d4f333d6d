-- What a reader's contract speaks of.
pub mod Line
pub mod Reader
pub mod Reads
