pub mod Ahead
pub mod Tallies
pub mod Estimates
pub mod Numbers
