pub mod Replays
pub mod Stops
