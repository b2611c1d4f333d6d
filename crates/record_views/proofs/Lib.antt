mod Asked
mod PairMoments
mod Viewed
pub mod Endings
pub mod Blocks
