pub mod Items
pub mod NamePlaces
pub mod FewItems
pub mod KnownTerms
pub mod MeantTerms
