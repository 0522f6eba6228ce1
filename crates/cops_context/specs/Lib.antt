pub mod Context
pub mod Kept
