-- No line that is read has a line feed in it.
use Rattle.std.specs.Prelude.{◌≡◌, ℕ, false, ◌==◌, List}
use Rattle.std.specs.List.{AllByRecursion, list_any}
use Rattle.tangle_files.specs.Lines.{FileTable}
use Rattle.tangle_lines.specs.Reading.{SourceLine}
use Rattle.c_tokens.specs.Bytes.{line_feed}

-- no byte of the text is one
abbrev pub TextHasNoLineFeed : List ℕ → Type 0
TextHasNoLineFeed bytes = list_any (λ b. b == line_feed) bytes ≡ false

-- no source line has one
abbrev pub SourceLinesHaveNoLineFeed : List SourceLine → Type 0
SourceLinesHaveNoLineFeed lines = AllByRecursion (λ l. TextHasNoLineFeed l.bytes) lines

-- no line of a file has one
abbrev pub FileLinesHaveNoLineFeed : FileTable → Type 0
FileLinesHaveNoLineFeed files = AllByRecursion (λ f. AllByRecursion TextHasNoLineFeed f.1) files

-- no name and no line of a file has one
pub record FilesHaveNoLineFeed (files : FileTable) : Type 0 where
  pub names : AllByRecursion (λ f. TextHasNoLineFeed f.0) files
  pub lines : FileLinesHaveNoLineFeed files
