pub mod Convergent
pub mod Audit
pub mod Convert
pub mod SoFar
pub mod Explain
pub mod Fed
pub mod Show
pub mod NextLine
