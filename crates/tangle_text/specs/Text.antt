-- The text that is scanned: the source lines, each followed by a line end.
use Rattle.std.specs.Prelude.{ℕ, zero, suc, ◌+◌, List, [], ◌∷◌, ◌++◌, flat_map, Option, Some, None}
use Rattle.std.specs.Prelude.{◌≡◌, ◌≤◌, ◌<◌, ◌-◌, option_to_list, length, take, drop, get_or, map}
use Rattle.tangle_lines.specs.Reading.{SourceLine}
use Rattle.tangle_text.specs.declared.spans.Span.{Span}

-- a byte of the text, or `None` at a line end, with the number of its source line and its column
-- there, both from 0
pub record Cell : Type 0 where
  pub line : ℕ
  pub column : ℕ
  pub byte : Option ℕ

-- the cells of a line from a column on, with its line end
abbrev pub line_text : ℕ → ℕ → List ℕ → List Cell
line_text line column [] = record { line = line; column = column; byte = None } ∷ []
line_text line column (b ∷ bs) =
    record { line = line; column = column; byte = Some b } ∷ line_text line (column + 1) bs

-- the text of source lines, the first of which has this number
abbrev pub text_from : ℕ → List SourceLine → List Cell
text_from line [] = []
text_from line (l ∷ ls) = line_text line 0 l.bytes ++ text_from (line + 1) ls

-- the bytes of cells
abbrev pub bytes_of : List Cell → List ℕ
bytes_of cells = flat_map (λ c. option_to_list c.byte) cells

-- a byte, unless it is a line end, and then these
abbrev pub bytes_by : Option ℕ → List ℕ → List ℕ
bytes_by None bytes = []
bytes_by (Some b) bytes = b ∷ bytes

-- the bytes of a text up to its first line end
abbrev pub line_bytes : List Cell → List ℕ
line_bytes [] = []
line_bytes (c ∷ cs) = bytes_by c.byte (line_bytes cs)

-- the byte of the cell at this distance from the front; after the end of the text there are line
-- ends
abbrev pub byte_at : ℕ → List Cell → Option ℕ
byte_at k [] = None
byte_at zero (c ∷ cs) = c.byte
byte_at (suc k) (c ∷ cs) = byte_at k cs

-- the line of the front of a text; `last` at the end of the source
abbrev pub front_line : ℕ → List Cell → ℕ
front_line last [] = last
front_line last (c ∷ cs) = c.line

-- the column of the front of a text
abbrev pub front_column : List Cell → ℕ
front_column [] = 0
front_column (c ∷ cs) = c.column

-- the span of this number of bytes from the front on, which are on one line
abbrev pub span_at : ℕ → List Cell → Span
span_at count [] = record { line = 0; start = 0; end = 0 }
span_at count (c ∷ cs) = record { line = c.line; start = c.column; end = c.column + count }

-- the first cell of a text; at the end of the source, a line end
abbrev pub front_cell : ℕ → List Cell → Cell
front_cell last text =
    record { line = front_line last text; column = front_column text; byte = byte_at 0 text }

-- the bytes of the source lines
abbrev pub texts_of : List SourceLine → List (List ℕ)
texts_of lines = map (λ l. l.bytes) lines

-- the bytes of a span
abbrev pub span_text : List (List ℕ) → Span → List ℕ
span_text texts s = take (s.end - s.start) (drop s.start (get_or texts s.line []))

-- a span is a range of a source line
pub record IsSpan (texts : List (List ℕ)) (s : Span) : Type 0 where
  pub line : s.line < length texts
  pub start : s.start ≤ s.end
  pub end : s.end ≤ length (get_or texts s.line [])

-- the text is that of these lines from some position on
abbrev pub IsRestOf : List SourceLine → List Cell → Type 0
IsRestOf lines text = (k : ℕ) × (text ≡ drop k (text_from 0 lines))
