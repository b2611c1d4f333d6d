pub mod Places
pub mod Flat
pub mod Pieces
pub mod IsCodes
pub mod Chains
pub mod IsAskers
