pub mod Reports
pub mod Marks
pub mod Lists
pub mod Shuffles
pub mod Differences
pub mod Joins
pub mod Clients
