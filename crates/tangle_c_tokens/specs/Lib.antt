pub mod Reading
pub mod Edges
pub mod Kinds
pub mod LineFeeds
pub mod Groups
pub mod Macros
pub mod Pieces
pub mod Files
