pub mod Stops
pub mod Reads
