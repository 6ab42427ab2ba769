pub mod Ledger
pub mod World
pub mod Kept
pub mod Counts
pub mod Sum
