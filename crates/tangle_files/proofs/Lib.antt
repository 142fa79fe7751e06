pub mod CuttingLemmas
pub mod TableLemmas
pub mod EditLimits
mod WorkedFiles
mod WorkedEdits
