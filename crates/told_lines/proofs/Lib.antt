pub mod LineEnds
pub mod Told
pub mod Table
