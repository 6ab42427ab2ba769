pub mod Step
pub mod Inner
