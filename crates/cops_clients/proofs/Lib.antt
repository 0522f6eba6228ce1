pub mod Gaining
pub mod Holding
pub mod Seats
pub mod Tickets
