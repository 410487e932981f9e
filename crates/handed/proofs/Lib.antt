pub mod Iterations
pub mod Lines
pub mod TrueLines
