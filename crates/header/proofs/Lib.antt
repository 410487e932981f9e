pub mod Headers
pub mod Tokens
