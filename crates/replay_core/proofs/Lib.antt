mod Blocks
mod Forms
mod Numbers
mod Files
mod Counts
mod PictureRows
mod Unchanged
mod BareRecords
mod StandingLines
mod Drilled
mod Playing
pub mod Feeding
pub mod BookFacts
pub mod LimitsFacts
pub mod Loads
pub mod Causes
pub mod Limited
pub mod Decided
pub mod Headlines
