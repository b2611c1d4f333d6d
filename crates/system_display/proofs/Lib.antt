pub mod Selections
pub mod Stretches
pub mod Places
pub mod RowTexts
pub mod PageRows
pub mod Mended
pub mod PanelOf
