pub mod Encodings
pub mod Turning
pub mod Readings
pub mod Lists
pub mod Going
pub mod Following
pub mod Underway
