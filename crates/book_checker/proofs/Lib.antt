pub mod Walking
pub mod Searching
pub mod Secondaries
pub mod Order
pub mod Counts
pub mod PhasesAlone
