pub mod Told
pub mod Table
