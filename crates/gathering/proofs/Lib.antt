pub mod Handing
pub mod Gathered
