-- What becomes of each byte of the C parts. Segments side by side fill the text; each is kept, in
-- spans, or dropped, by its kind.
use Rattle.std.specs.Prelude.{◌≡◌, ◌≤◌, ◌<◌, ◌⊎◌, ℕ, zero, suc, ◌+◌, ◌-◌, Bool, true, false, ◌&&◌}
use Rattle.std.specs.Prelude.{◌||◌, not, List, [], ◌∷◌, ◌++◌, length, flat_map, take, drop}
use Rattle.std.specs.Prelude.{if◌then◌else◌, Option, None, Some}
use Rattle.std.specs.List.{AllByRecursion}
use Rattle.tangle_lines.specs.Reading.{SourceLine}
use Rattle.tangle_text.specs.declared.spans.Span.{Span}
use Rattle.tangle_text.specs.declared.regions.Region.TheVariants as region
use Rattle.tangle_lexer.specs.declared.modes.Mode.{Mode}
use Rattle.tangle_lexer.specs.declared.modes.Mode.TheVariants as mode
use Rattle.tangle_lexer.specs.declared.modes.LexerState.{LexerState}
use Rattle.tangle_lexer.specs.declared.lexeme_kinds.ControlCode.{ControlCode}
use Rattle.tangle_lexer.specs.declared.lexeme_kinds.ControlCode.TheVariants as code
use Rattle.tangle_lexer.specs.declared.lexeme_kinds.LexemeKind.{LexemeKind}
use Rattle.tangle_lexer.specs.declared.lexeme_kinds.LexemeKind.TheVariants as lexeme_kind
use Rattle.tangle_lines.specs.Bytes.{at_sign}
use Rattle.tangle_text.specs.Bytes.{asterisk, slash, apostrophe, backslash, holds, is_line_end}
use Rattle.tangle_text.specs.Bytes.{holds_white, are_bytes, is_name_start}
use Rattle.tangle_text.specs.Text.{Cell, byte_at, text_from}
use Rattle.tangle_text.specs.Regions.{count_before}
use Rattle.tangle_lexer.specs.Comments.{has_end_code, starts_section}
use Rattle.tangle_lexer.specs.CText.{code_at, kind_at}
use Rattle.tangle_lexer.specs.Steps.{LexemeStart, lexeme_starts, lexeme}
use Rattle.tangle_lexer.specs.Steps.{first_state}

-- where bytes are: a point is a line and a column of it, both from 0

-- the points of this number of columns of a line, from `column` on
abbrev pub columns_from : ℕ → ℕ → ℕ → List (ℕ × ℕ)
columns_from line column zero = []
columns_from line column (suc n) = (line, column) ∷ columns_from line (column + 1) n

abbrev pub span_points : Span → List (ℕ × ℕ)
span_points s = columns_from s.line s.start (s.end - s.start)

-- the point of a cell that is a byte; a line end has none
abbrev pub cell_point : Option ℕ → Cell → List (ℕ × ℕ)
cell_point None c = []
cell_point (Some b) c = (c.line, c.column) ∷ []

abbrev pub byte_points : List Cell → List (ℕ × ℕ)
byte_points cells = flat_map (λ c. cell_point c.byte c) cells

-- What a segment is. All kinds but Kept are dropped: the items have what a control code, a section
-- name or a constant represents, and none of its bytes.
pub data SegmentKind : Type 0 where
  Kept : SegmentKind  -- a word, a sign, or a range of a quoted or verbatim text
  SecondAtSign : SegmentKind  -- the second @ of an @@ that represents one @
  LineEnd : SegmentKind
  WhiteSpace : SegmentKind
  Comment : SegmentKind
  ControlText : SegmentKind
  ControlBytes : SegmentKind  -- @ and the byte after it; of a section start, @ alone
  SectionName : SegmentKind  -- a use of one
  AsciiConstant : SegmentKind  -- @' and its character, through the apostrophe, or a bad constant
  Outside : SegmentKind  -- text outside C parts

pub record Segment : Type 0 where
  pub kind : SegmentKind
  pub cells : List Cell

abbrev pub segment : SegmentKind → List Cell → Segment
segment kind cells = record { kind = kind; cells = cells }

-- a text begins with a control code of this kind
abbrev pub OpensWith : ControlCode → List Cell → Type 0
OpensWith kind cells = (holds at_sign (byte_at 0 cells) ≡ true) × (code_at (byte_at 1 cells) ≡ kind)

-- The control codes of a text, in order, each with the text after it. @@ is one control code, so
-- its second @ begins none.
abbrev pub control_codes : List Cell → List (List Cell)
control_codes [] = []
control_codes (c ∷ []) = if holds at_sign c.byte then (c ∷ []) ∷ [] else []
control_codes (c ∷ d ∷ cs) =
    if holds at_sign c.byte then (c ∷ d ∷ cs) ∷ control_codes cs else control_codes (d ∷ cs)

-- no section start is in a text
abbrev pub HasNoSection : List Cell → Type 0
HasNoSection cells = AllByRecursion (λ text. starts_section text ≡ false) (control_codes cells)

-- begins with /*, and has no */ before its end and no section start
abbrev pub IsBlockComment : List Cell → Type 0
IsBlockComment cells =
    (are_bytes slash asterisk (byte_at 0 cells) (byte_at 1 cells) ≡ true)
    × ((k : ℕ) → 2 ≤ k → k + 2 < length cells
    → are_bytes asterisk slash (byte_at k cells) (byte_at (k + 1) cells) ≡ false)
    × HasNoSection (drop 2 cells)

-- begins with //, and has no line end and no section start
abbrev pub IsLineComment : List Cell → Type 0
IsLineComment cells =
    (are_bytes slash slash (byte_at 0 cells) (byte_at 1 cells) ≡ true)
    × AllByRecursion (λ c. is_line_end c.byte ≡ false) cells
    × HasNoSection (drop 2 cells)

-- @>, and nothing after it
abbrev pub IsEndCode : List Cell → Type 0
IsEndCode text = (has_end_code text ≡ true) × (length text ≡ 2)

-- begins with the control code of a control text; has no other control code but @@ and the @> at
-- its end
abbrev pub IsControlText : List Cell → Type 0
IsControlText cells =
    OpensWith code.ControlText cells
    × AllByRecursion (λ text. IsEndCode text ⊎ (holds at_sign (byte_at 1 text) ≡ true))
    (control_codes (drop 2 cells))

-- what ends a section name: @>, a section start, or where another name starts
abbrev pub ends_name : List Cell → Bool
ends_name text =
    has_end_code text || starts_section text || is_name_start (byte_at 0 text) (byte_at 1 text)

-- begins with @< or @(, and nothing after that ends a section name but the @> at its end
abbrev pub IsSectionName : List Cell → Type 0
IsSectionName cells =
    OpensWith code.Name cells
    × AllByRecursion (λ text. IsEndCode text ⊎ (ends_name text ≡ false))
    (control_codes (drop 2 cells))

-- begins with @', and has no line end; before its last byte it has no apostrophe, except for one
-- that a backslash directly after @' escapes
abbrev pub IsAsciiConstant : List Cell → Type 0
IsAsciiConstant cells =
    OpensWith code.AsciiConstant cells
    × AllByRecursion (λ c. is_line_end c.byte ≡ false) cells
    × ((k : ℕ) → 2 ≤ k → k + 1 < length cells → holds apostrophe (byte_at k cells) ≡ true
    → (k ≡ 3) × (holds backslash (byte_at 2 cells) ≡ true))

-- the cells are such as a segment of this kind has
abbrev pub ShowsKind : SegmentKind → List Cell → Type 0
ShowsKind Kept cells = AllByRecursion (λ c. is_line_end c.byte ≡ false) cells
ShowsKind SecondAtSign cells = (length cells ≡ 1) × (holds at_sign (byte_at 0 cells) ≡ true)
ShowsKind LineEnd cells = AllByRecursion (λ c. is_line_end c.byte ≡ true) cells
ShowsKind WhiteSpace cells = AllByRecursion (λ c. holds_white c.byte ≡ true) cells
ShowsKind Comment cells = IsBlockComment cells ⊎ IsLineComment cells
ShowsKind ControlText cells = IsControlText cells
ShowsKind SectionName cells = IsSectionName cells
ShowsKind AsciiConstant cells = IsAsciiConstant cells
ShowsKind ControlBytes cells = (holds at_sign (byte_at 0 cells) ≡ true) × (length cells ≤ 2)
ShowsKind Outside cells = Unit {0}

-- the points of the bytes that a segment of this kind keeps
abbrev pub points_by : SegmentKind → List Cell → List (ℕ × ℕ)
points_by Kept cells = byte_points cells
points_by _ cells = []

abbrev pub kept_points : Segment → List (ℕ × ℕ)
kept_points s = points_by s.kind s.cells

-- Of a quoted or verbatim text all bytes are kept but the second @ of each @@. The flag says
-- whether the cell before is an @ that is not the second one of an @@.
abbrev pub cell_kind : Bool → Cell → SegmentKind
cell_kind after_at_sign c =
    if is_line_end c.byte then LineEnd
    else if after_at_sign && holds at_sign c.byte then SecondAtSign
    else Kept

abbrev pub text_segments : Bool → List Cell → List Segment
text_segments after_at_sign [] = []
text_segments after_at_sign (c ∷ cs) =
    segment (cell_kind after_at_sign c) (c ∷ [])
    ∷ text_segments (holds at_sign c.byte && not after_at_sign) cs

-- @= before a verbatim text, and @> after it, if it is there
abbrev pub verbatim_segments : List Cell → List Segment
verbatim_segments text =
    let inside : ℕ = count_before region.Verbatim (drop 2 text) in
    let after : List Cell = drop inside (drop 2 text) in
    segment ControlBytes (take 2 text) ∷ text_segments false (take inside (drop 2 text))
    ++ (if has_end_code after then segment ControlBytes (take 2 after) ∷ [] else [])

-- The segments of the first `n` cells, by the control code that they begin with.
abbrev pub code_segments : ControlCode → ℕ → List Cell → List Segment
code_segments code.DoubleAt n text =
    segment Kept (take 1 text) ∷ segment SecondAtSign (take 1 (drop 1 text)) ∷ []
code_segments code.Verbatim n text = verbatim_segments text
code_segments code.ControlText n text = segment ControlText (take n text) ∷ []
code_segments code.Name n text = segment SectionName (take n text) ∷ []
code_segments code.AsciiConstant n text = segment AsciiConstant (take n text) ∷ []
code_segments _ n text = segment ControlBytes (take n text) ∷ []

-- The segments of the first `n` cells of C text, by what begins there.
abbrev pub c_segments : LexemeKind → ℕ → List Cell → List Segment
c_segments (lexeme_kind.Control code) n text = code_segments code n text
c_segments lexeme_kind.BlockComment n text = segment Comment (take n text) ∷ []
c_segments lexeme_kind.LineComment n text = segment Comment (take n text) ∷ []
c_segments lexeme_kind.LineEnd n text = segment LineEnd (take n text) ∷ []
c_segments lexeme_kind.White n text = segment WhiteSpace (take n text) ∷ []
c_segments lexeme_kind.Word n text = segment Kept (take n text) ∷ []
c_segments lexeme_kind.Other n text = segment Kept (take n text) ∷ []
-- quoted texts
c_segments _ n text = text_segments false (take n text)

-- the segments of the first `n` cells, by the mode: only the mode CPart reads text of a C part
abbrev pub segments_in : Mode → LexerState → ℕ → List Cell → List Segment
segments_in mode.CPart s n text = c_segments (kind_at s.line.include text) n text
segments_in _ s n text = segment Outside (take n text) ∷ []

-- the segments of the lexeme that begins there
abbrev pub lexeme_segments : LexemeStart → List Segment
lexeme_segments start =
    segments_in start.state.mode start.state (1 + (lexeme start.state start.text).more) start.text

-- The segments of a text, lexeme by lexeme. `k` cells at the front belong to an earlier lexeme.
abbrev pub segments : ℕ → LexerState → List Cell → List Segment
segments k s text = flat_map lexeme_segments (lexeme_starts k s text)

-- the segments of a source
abbrev pub all_segments : List SourceLine → List Segment
all_segments lines = segments 0 (first_state (length lines)) (text_from 0 lines)
