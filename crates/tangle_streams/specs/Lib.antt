pub mod Streams
pub mod Feeds
