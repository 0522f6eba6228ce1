pub mod Acts
pub mod Node
pub mod Refusals
pub mod Outcomes
pub mod Book
