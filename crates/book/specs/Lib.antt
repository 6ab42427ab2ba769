pub mod Line
pub mod Rows
pub mod Broken
pub mod Memory
pub mod Lending
