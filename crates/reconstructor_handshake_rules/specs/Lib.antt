pub mod Answers
pub mod Drops
