pub mod ValueReads
pub mod Numbers
