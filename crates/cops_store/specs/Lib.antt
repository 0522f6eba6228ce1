pub mod Store
pub mod Settling
pub mod Index
pub mod Places
