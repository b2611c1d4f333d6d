pub mod Told
pub mod WordsStand
pub mod ReadBack
