pub mod Examples
pub mod Groups
