pub mod Parts
pub mod Shapes
pub mod Numbers
pub mod Encoded
pub mod Decoded
pub mod RoundTrip
