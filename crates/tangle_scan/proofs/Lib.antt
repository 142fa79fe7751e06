pub mod lemmas
pub mod laws
pub mod worked
