pub mod Texts
pub mod Versions
