pub mod Damaged
pub mod Table
