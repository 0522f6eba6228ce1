pub mod Held
pub mod Taking
pub mod Table
