pub mod lemmas
mod WorkedLines
mod WorkedNames
mod WorkedNumbers
pub mod laws
pub mod lines
