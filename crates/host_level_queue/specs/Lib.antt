pub mod LevelQueue
