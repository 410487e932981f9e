pub mod ByLetters
pub mod Name
pub mod Plain
pub mod Words
