pub mod Refusals
pub mod Applied
pub mod Inner
