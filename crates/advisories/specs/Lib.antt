pub mod View
pub mod Document
pub mod Drifts
pub mod Watches
pub mod Panel
pub mod State
