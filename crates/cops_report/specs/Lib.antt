pub mod Chains
pub mod Marks
pub mod Searches
pub mod Reports
pub mod Puts
pub mod Reported
