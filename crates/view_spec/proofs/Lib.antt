pub mod TickLaws
pub mod FlightSteps
pub mod FlightAgree
pub mod FlightLaws
pub mod CalloutLaws
pub mod NamedPlaces
