pub mod PairState
pub mod Alike
pub mod Lasts
pub mod Faces
pub mod TitlePlaces
pub mod Standings
pub mod PairVisits
pub mod Views
