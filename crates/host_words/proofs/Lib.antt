pub mod Puts
pub mod Blocks
pub mod RoundTrip
pub mod Lent
