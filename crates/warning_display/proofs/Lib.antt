pub mod Passing
pub mod Places
pub mod Adding
pub mod Blocks
pub mod Titles
pub mod Beyond
pub mod Marks
pub mod Joining
