-- From the values of a table up to a whole document.
pub mod Fields
pub mod Verdict
pub mod Schema
pub mod Rules
pub mod TableRules
pub mod Defaults
pub mod Document
pub mod DraftOf
pub mod BookBytes
