pub mod Edits
pub mod Sessions
pub mod Laws
pub mod Headline
pub mod Writes
pub mod States
pub mod Moves
