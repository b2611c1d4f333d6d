pub mod FaultFree
pub mod Fitting
