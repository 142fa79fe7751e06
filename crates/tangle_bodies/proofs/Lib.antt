pub mod InsideLemmas
pub mod EachLemmas
pub mod ResolvedLemmas
pub mod AddingPieces
pub mod TagLemmas
pub mod CountLemmas
pub mod HeldLemmas
pub mod FlatLemmas
