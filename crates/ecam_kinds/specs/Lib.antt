pub mod Shown
pub mod KeyState
