pub mod Cr
pub mod Put
