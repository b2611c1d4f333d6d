pub mod MarkStep
pub mod Ranks
pub mod MarkSets
pub mod Looked
pub mod CrewMarks
pub mod MarksState
