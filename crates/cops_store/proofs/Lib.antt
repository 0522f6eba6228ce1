pub mod Showing
pub mod Placing
pub mod Indexing
