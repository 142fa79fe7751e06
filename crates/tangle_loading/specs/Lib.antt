pub mod Endings
pub mod Loading
