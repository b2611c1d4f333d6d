pub mod Alerts
pub mod Listed
pub mod Stars
pub mod Confirming
pub mod TruthsState
pub mod Noting
