-- The text ahead of a position.
use Rattle.std.specs.Prelude.{◌≡◌, ◌<◌, ℕ, ◌+◌, Bool, true, false, List, [], ◌++◌, length}
use Rattle.std.specs.Prelude.{drop}
use Rattle.tangle_lines.specs.Reading.{SourceLine}
use Rattle.tangle_text.specs.declared.reader.Front.{Front}
use Rattle.tangle_text.specs.Text.{Cell, line_text, text_from, byte_at}

-- the text from a column of a line with these bytes on; nothing after the last line
abbrev pub rest_of : List SourceLine → List ℕ → ℕ → ℕ → Bool → List Cell
rest_of lines bytes line column true = []
rest_of lines bytes line column false =
    line_text line column (drop column bytes) ++ text_from (line + 1) (drop (line + 1) lines)

-- the first two bytes of a text that isn't at its end
pub record IsFront (text : List Cell) (front : Front) : Type 0 where
  pub inside : 0 < length text
  pub byte : byte_at 0 text ≡ front.byte
  pub next : byte_at 1 text ≡ front.next
