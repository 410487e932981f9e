pub mod Marks
pub mod RunSteps
pub mod RunTurns
pub mod Still
