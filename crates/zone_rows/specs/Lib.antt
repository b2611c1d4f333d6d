pub mod Tracked
pub mod Mended
pub mod Zones
