pub mod Counting
pub mod JoinedLines
