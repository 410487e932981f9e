-- Examples is for readers; the others serve the proofs of this crate alone.
mod Contents
pub mod Examples
mod Ids
mod Runs
