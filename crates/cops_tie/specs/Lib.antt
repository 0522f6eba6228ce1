pub mod Tie
pub mod Untied
pub mod Ticketed
pub mod Outcomes
pub mod Runs
pub mod NoRun
