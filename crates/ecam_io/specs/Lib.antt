pub mod Outside
pub mod MemoryShelf
pub mod MemorySink
pub mod Tally
