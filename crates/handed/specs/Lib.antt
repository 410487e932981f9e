pub mod Handed
pub mod Iteration
pub mod Lines
pub mod TrueLines
pub mod Hands
