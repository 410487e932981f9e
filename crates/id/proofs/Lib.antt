-- Ids is for the crates above; Digits serves the proofs of this crate alone.
mod Digits
pub mod Ids
