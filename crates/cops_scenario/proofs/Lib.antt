pub mod Forms
pub mod Clients
pub mod Events
pub mod Scripts
pub mod Order
pub mod Right
