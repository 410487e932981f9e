pub mod Entry
pub mod Record
pub mod Why
