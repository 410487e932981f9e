pub mod Feeds
pub mod Walks
