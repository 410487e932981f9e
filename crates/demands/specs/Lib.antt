pub mod Demands
pub mod Found
pub mod Refused
