pub mod Entries
pub mod Written
pub mod Watching
pub mod Flights
pub mod Ticking
