pub mod AlikeLemmas
pub mod ContainsLemmas
pub mod BeginningLemmas
pub mod FirstLemmas
mod KeptLemmas
mod KeyLemmas
pub mod LawLemmas
mod MeaningLemmas
mod OrderLemmas
mod ResolvingLemmas
mod SortedLemmas
mod TableLemmas
mod WorkedWebs
