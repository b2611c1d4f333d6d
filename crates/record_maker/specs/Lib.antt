pub mod Draws
pub mod Flight
pub mod Words
pub mod Lines
pub mod Record
pub mod Maker
