pub mod State
pub mod Checks
