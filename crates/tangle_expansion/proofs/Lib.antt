mod WorkedWebs
pub mod Weights
pub mod LineTruth
pub mod PieceLemmas
pub mod NumberLemmas
pub mod LookupLemmas
pub mod WriteLemmas
pub mod WrittenLemmas
pub mod ShortLemmas
pub mod CursorLemmas
pub mod UsedLemmas
pub mod SameShapes
pub mod Unaffected
pub mod SharedLemmas
pub mod FilledLemmas
