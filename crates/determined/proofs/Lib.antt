pub mod Anywhere
pub mod Boundary
pub mod Bytes
pub mod Edits
pub mod Files
pub mod Law
pub mod Lookups
pub mod Merges
