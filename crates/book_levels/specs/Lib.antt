pub mod Levels
pub mod Marks
