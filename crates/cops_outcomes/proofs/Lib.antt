pub mod Places
pub mod Seeing
pub mod Taking
