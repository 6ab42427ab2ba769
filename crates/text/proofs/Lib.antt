pub mod Texts
pub mod Decimals
