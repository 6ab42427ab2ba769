pub mod Bytes
pub mod Piece
pub mod Encode
pub mod RoundTrip
pub mod Words
