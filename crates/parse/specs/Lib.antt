pub mod Choice
pub mod Limit
pub mod Line
pub mod Part
pub mod Run
pub mod Split
