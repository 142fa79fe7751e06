mod OutputLemmas
mod TangleLemmas
mod AnalysisLemmas
pub mod EditLemmas
mod LawLemmas
pub mod NameLemmas
pub mod HeadlineLemmas
mod MoveLemmas
mod WorkedSessions
