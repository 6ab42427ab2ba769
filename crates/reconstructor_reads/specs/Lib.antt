pub mod LevelReads
pub mod Numbers
pub mod Said
