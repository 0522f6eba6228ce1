pub mod Replay
pub mod Same
