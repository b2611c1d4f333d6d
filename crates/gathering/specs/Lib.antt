pub mod Handed
pub mod Gathers
