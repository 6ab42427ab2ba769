pub mod MessageTests
