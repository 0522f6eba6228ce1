pub mod Scenario
pub mod Limits
pub mod Fields
pub mod File
pub mod Lines
