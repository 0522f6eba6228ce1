pub mod Recording
pub mod LineByLine
pub mod Left
