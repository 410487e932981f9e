pub mod Ask
pub mod Trusted
