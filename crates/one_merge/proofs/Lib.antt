pub mod CheckedLookup
pub mod OneMerge
pub mod Overriding
pub mod ReadBack
pub mod WrittenFile
pub mod WrittenHeader
pub mod WrittenItems
pub mod WrittenLines
