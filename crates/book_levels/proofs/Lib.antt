pub mod Prices
pub mod Totals
pub mod Walks
pub mod Writing
