pub mod NodeLemmas
pub mod NameLemmas
mod GroupLemmas
mod RowLemmas
mod MeasureLemmas
mod StepLemmas
mod ListLemmas
mod GraphLemmas
pub mod NodeMeasureLemmas
mod BodyLemmas
mod ShapeLemmas
mod BodyMakingLemmas
mod StoredBodies
mod PushLemmas
pub mod ExpandLemmas
mod StoreOfWeb
pub mod OutputLemmas
mod StoredRows
mod NameGraphLemmas
mod PlainFormLemmas
mod WorkedForms
mod WorkedOutputs
mod NamedFileLemmas
pub mod StoredPieces
mod FlagLemmas
mod AffectedLemmas
mod KeepLemmas
pub mod CycleLemmas
