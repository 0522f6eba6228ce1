pub mod Found
pub mod Pieces
