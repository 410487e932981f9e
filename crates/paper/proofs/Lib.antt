pub mod Cases
pub mod Lookups
