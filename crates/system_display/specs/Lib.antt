pub mod Panels
pub mod Selecting
pub mod Pages
