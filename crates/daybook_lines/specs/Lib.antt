pub mod Most
pub mod Listed
