pub mod Watches
pub mod Moments
pub mod Calling
pub mod Latest
pub mod Walked
pub mod State
