pub mod GraphLemmas
pub mod RowLemmas
pub mod UserLemmas
pub mod ReachLemmas
pub mod RootLemmas
pub mod FindingLemmas
pub mod LinkLemmas
pub mod TitleLemmas
pub mod OrderSoFarLemmas
pub mod OrderLemmas
pub mod PathLemmas
mod PassLemmas
pub mod ComputedReach
