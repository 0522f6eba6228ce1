pub mod Place
pub mod Clients
