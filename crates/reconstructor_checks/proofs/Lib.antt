pub mod StateChecks
