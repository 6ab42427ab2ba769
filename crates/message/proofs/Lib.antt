pub mod Signed
pub mod Amounts
