pub mod Examples
pub mod Merge
pub mod Override
pub mod Splice
