-- Laws is for the crates above, and ByLetters is a theorem for the reader; the others serve the proofs of this crate alone.
mod Bools
pub mod ByLetters
mod Components
mod Ends
pub mod Laws
mod OnePass
mod PlainNames
mod Slashes
