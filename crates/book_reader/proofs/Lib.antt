pub mod PhaseSets
pub mod BookText
pub mod UnplacedParts
