pub mod Replay
pub mod ByValue
