pub mod NewHandshake
