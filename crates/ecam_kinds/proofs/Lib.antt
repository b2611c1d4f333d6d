pub mod Rows
pub mod Strokes
