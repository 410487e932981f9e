pub mod LockNames
pub mod Table
