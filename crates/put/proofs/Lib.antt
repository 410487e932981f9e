pub mod Crs
pub mod Laws
pub mod Turns
