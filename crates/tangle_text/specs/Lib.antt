pub mod Bytes
pub mod Text
pub mod Ahead
pub mod Regions
pub mod NameBytes
pub mod Words
pub mod Runs
