pub mod Behind
pub mod StatusOf
