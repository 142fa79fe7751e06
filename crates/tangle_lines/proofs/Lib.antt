pub mod ByteSetLemmas
pub mod WaitingLemmas
pub mod PassingLemmas
pub mod ReadingLemmas
mod WorkedInclusions
mod WorkedChanges
mod WorkedReading
