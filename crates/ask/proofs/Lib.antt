pub mod FirstNamed
pub mod Seeking
pub mod Trusted
