pub mod Cuts
pub mod Damage
pub mod Front
pub mod HeaderKept
pub mod Resync
pub mod TextKept
pub mod Traces
