pub mod Entries
pub mod Items
pub mod Stands
pub mod Step
