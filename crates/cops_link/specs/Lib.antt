pub mod Frame
pub mod Link
