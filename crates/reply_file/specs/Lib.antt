pub mod Head
pub mod Verdict
pub mod Walk
