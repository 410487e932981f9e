pub mod Lines
pub mod Near
