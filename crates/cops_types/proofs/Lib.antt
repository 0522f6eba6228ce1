pub mod DepLemmas
pub mod Sessions
pub mod Keys
pub mod Reporting
pub mod Sources
pub mod Showing
pub mod Sessioning
mod Joining
pub mod Climbing
pub mod Holding
pub mod Devices
pub mod Formats
