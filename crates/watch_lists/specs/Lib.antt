pub mod Naming
pub mod Listed
pub mod Flat
pub mod Watching
