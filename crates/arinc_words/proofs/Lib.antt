pub mod Bits
pub mod Fields
pub mod Scaled
pub mod Composed
