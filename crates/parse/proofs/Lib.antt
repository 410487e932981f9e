pub mod Admitted
pub mod Fronts
pub mod Lines
pub mod Runs
pub mod Slices
pub mod Stops
pub mod Views
