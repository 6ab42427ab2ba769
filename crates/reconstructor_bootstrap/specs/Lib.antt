pub mod Numbers
pub mod Snapshot
pub mod Bootstrap
pub mod Places
