pub mod Iteration
