pub mod Inputs
pub mod Climbs
pub mod Regimes
pub mod State
