pub mod Parts
pub mod Readings
