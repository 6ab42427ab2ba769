pub mod Passed
pub mod Written
