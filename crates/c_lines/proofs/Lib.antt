pub mod JoinedLemmas
pub mod CountingLemmas
pub mod LineLemmas
pub mod LineDirectiveLemmas
pub mod WorkedLines
pub mod WorkedCounting
