-- ByNumber serves the proofs of this crate alone; the others are for the crates above too.
pub mod Below
mod ByNumber
pub mod Orders
pub mod Prefixes
