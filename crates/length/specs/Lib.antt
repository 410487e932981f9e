pub mod Examples
pub mod Length
