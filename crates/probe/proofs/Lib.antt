pub mod Shapes
pub mod Starts
