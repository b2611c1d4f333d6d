pub mod Joined
pub mod Texts
pub mod Digits
pub mod Moments
pub mod GoodLines
pub mod Standing
pub mod Whole
