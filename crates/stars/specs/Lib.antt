pub mod E
pub mod Snapshots
pub mod Stars
