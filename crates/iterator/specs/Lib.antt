pub mod Next
pub mod Iteration
