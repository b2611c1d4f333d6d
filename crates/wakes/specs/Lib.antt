pub mod Marks
pub mod MarkedEnd
pub mod Due
pub mod Turning
pub mod Lending
