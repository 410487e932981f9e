pub mod Begins
pub mod Lines
