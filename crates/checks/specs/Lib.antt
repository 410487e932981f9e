pub mod Check
pub mod CheckMeans
pub mod Examples
pub mod Passes
