pub mod Behind
pub mod ActiveBelow
pub mod AtPlaces
pub mod SectionRows
pub mod CancelledRows
pub mod Counting
pub mod Pages
