pub mod InOrder
pub mod Steps
pub mod Eras
pub mod LastMoments
pub mod Taking
