pub mod Numbers
pub mod Check
