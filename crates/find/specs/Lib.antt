pub mod Hits
pub mod Lookup
pub mod PrefixStart
pub mod Present
