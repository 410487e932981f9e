pub mod Demands
pub mod Found
pub mod Handed
pub mod Refused
