pub mod Bytes
pub mod Change
pub mod Changes
pub mod Inclusion
pub mod Reading
pub mod ReadingLaw
pub mod Waiting
