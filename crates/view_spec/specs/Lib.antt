pub mod Ticks
pub mod Places
pub mod FlightReport
pub mod Callouts
pub mod OutputWords
pub mod OpenedWords
pub mod Advisories
