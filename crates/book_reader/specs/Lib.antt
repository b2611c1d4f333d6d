pub mod Drafting
pub mod Unplaced
