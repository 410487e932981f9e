pub mod Entry
pub mod Locality
pub mod Parts
pub mod Records
pub mod Why
