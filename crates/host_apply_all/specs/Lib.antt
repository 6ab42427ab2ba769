pub mod ApplyAll
