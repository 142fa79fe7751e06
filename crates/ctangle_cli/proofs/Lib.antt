mod NameLemmas
mod NothingDone
mod RunLemmas
mod WriteLemmas
mod WorkedWebs
mod RetangleLemmas
mod WorkedArguments
mod AnswerLemmas
pub mod HistoryLemmas
mod ReadLemmas
mod WorkedPage
