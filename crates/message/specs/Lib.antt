pub mod Values
pub mod Same
pub mod Amounts
pub mod Told
