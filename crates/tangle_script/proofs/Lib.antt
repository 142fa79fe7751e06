pub mod TableLemmas
pub mod CommandLemmas
pub mod ConversationLemmas
pub mod BufferLemmas
pub mod RunLemmas
pub mod FailureLemmas
mod WorkedScripts
