pub mod Examples
pub mod Loose
