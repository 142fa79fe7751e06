pub mod KindSteps
pub mod LineSteps
pub mod OpenLines
pub mod PartLines
pub mod StateLines
pub mod TextSteps
pub mod VerbatimSteps
