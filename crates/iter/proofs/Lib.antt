pub mod Covers
pub mod Each
pub mod Entries
pub mod ItemRead
pub mod Items
pub mod Steps
pub mod Turns
pub mod OnLine
