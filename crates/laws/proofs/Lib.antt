pub mod Bits
pub mod Bools
pub mod Splice
