pub mod Same
pub mod Places
pub mod Mending
pub mod Filling
pub mod Zones
