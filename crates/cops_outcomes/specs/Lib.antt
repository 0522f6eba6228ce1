pub mod Outcomes
pub mod Sightings
pub mod Words
