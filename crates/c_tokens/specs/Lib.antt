pub mod Bytes
pub mod Grammar
pub mod Reading
pub mod Touching
pub mod Borders
