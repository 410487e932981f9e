pub mod Places
pub mod Strings
pub mod Texts
