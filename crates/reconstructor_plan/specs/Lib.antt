pub mod Rules
pub mod Plans
