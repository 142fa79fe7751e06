pub mod AskLemmas
pub mod LoadLemmas
pub mod NoMissingLemmas
pub mod RoundLemmas
pub mod StepLemmas
pub mod TableLemmas
mod WorkedLoading
