pub mod Answers
pub mod Stores
