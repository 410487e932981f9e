pub mod Bytes
pub mod Eights
pub mod Numbers
pub mod Masks
pub mod Zeros
pub mod Lows
