pub mod Bits
pub mod Joining
pub mod Counting
pub mod Places
pub mod Wheels
pub mod Groups
pub mod Lent
