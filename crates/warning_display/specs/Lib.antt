pub mod Counted
pub mod Memos
pub mod LeftRows
pub mod ShownPlaces
pub mod RightRows
pub mod FlagText
