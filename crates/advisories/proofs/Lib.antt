pub mod FileText
pub mod Drifting
pub mod PhaseBounds
pub mod Told
pub mod Eras
pub mod RowsAtTicks
pub mod Lent
pub mod Ended
