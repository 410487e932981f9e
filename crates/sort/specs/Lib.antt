pub mod Heap
pub mod Sorted
pub mod Theorems
pub mod Twin
