pub mod Places
pub mod Filled
pub mod InTurn
pub mod Whole
pub mod Laws
