pub mod Answers
pub mod Protocol
pub mod Sessions
pub mod Turns
pub mod Listening
