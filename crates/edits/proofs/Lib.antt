pub mod Filling
pub mod Lists
pub mod Ordering
pub mod Outcomes
