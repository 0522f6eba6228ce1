pub mod Records
pub mod Back
