pub mod Splitting
pub mod Checked
