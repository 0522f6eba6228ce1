pub mod Objects
pub mod Operations
pub mod Faults
pub mod Explanations
pub mod Faulty
