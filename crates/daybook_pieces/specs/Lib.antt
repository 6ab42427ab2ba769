pub mod Answers
pub mod Played
pub mod ByValue
