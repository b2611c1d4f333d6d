pub mod Flaws
pub mod Sealing
