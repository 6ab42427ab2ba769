pub mod Audited
pub mod Crossing
