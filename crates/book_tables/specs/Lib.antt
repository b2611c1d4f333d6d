pub mod Reading
pub mod Outcome
pub mod Places
pub mod Catalogue
pub mod Meant
