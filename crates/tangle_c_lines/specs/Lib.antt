pub mod CountedLines
