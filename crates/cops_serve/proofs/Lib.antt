pub mod Ends
pub mod Seats
pub mod Changes
