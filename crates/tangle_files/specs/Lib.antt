pub mod Bytes
pub mod Lines
pub mod Sharing
pub mod Adding
pub mod Edits
pub mod Edited
pub mod Roles
pub mod Table
