pub mod Fits
pub mod Kept
pub mod Memory
pub mod Moves
pub mod Rows
pub mod Stored
