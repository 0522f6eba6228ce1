pub mod Seats
pub mod Replying
pub mod FrontEnd
pub mod Serving
pub mod Opening
