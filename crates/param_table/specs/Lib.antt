pub mod Taking
pub mod Asked
pub mod Words
pub mod HeldValues
pub mod HeldState
pub mod Rules
pub mod Routes
pub mod TableState
