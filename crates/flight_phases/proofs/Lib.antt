pub mod Trips
pub mod Stretches
pub mod Climbing
pub mod Numbers
pub mod Resting
