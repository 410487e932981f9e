pub mod Ascending
pub mod Asked
pub mod CheckMeans
pub mod CheckTurns
pub mod Examples
pub mod Passes
