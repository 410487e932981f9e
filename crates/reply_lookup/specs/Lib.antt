pub mod Asked
pub mod Lookup
pub mod Prefix
