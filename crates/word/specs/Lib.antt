pub mod Choice
pub mod Number
pub mod Low
