-- Comments and control texts, which count as white space.
use Rattle.std.specs.Prelude.{ℕ, ◌+◌, Bool, true, false, not, ◌&&◌, List, [], ◌∷◌, flat_map, drop}
use Rattle.std.specs.Prelude.{if◌then◌else◌}
use Rattle.tangle_faults.specs.declared.faults.FaultKind.{FaultKind}
use Rattle.tangle_faults.specs.declared.faults.FaultKind.TheVariants as fault
use Rattle.tangle_text.specs.declared.regions.Region.{Region}
use Rattle.tangle_text.specs.declared.regions.Region.TheVariants as region
use Rattle.tangle_lexer.specs.declared.modes.LexerState.{LexerState}
use Rattle.tangle_lexer.specs.declared.tokens.Token.{Token}
use Rattle.tangle_text.specs.Bytes.{asterisk, slash, are_bytes, is_section_start, is_end_code}
use Rattle.tangle_text.specs.Text.{Cell, byte_at, front_line}
use Rattle.tangle_text.specs.Regions.{units, count_before, region_end}
use Rattle.tangle_lexer.specs.Lexemes.{Lexeme, white_lexeme, fault_if, line_end_by}

-- the line end that a unit begins with, if it begins with one
abbrev pub unit_line_end : List Cell → List Token
unit_line_end [] = []
unit_line_end (c ∷ cs) = line_end_by c.byte c.line

-- the line ends in a region
abbrev pub line_ends : Region → List Cell → List Token
line_ends r text = flat_map unit_line_end (units r text)

-- */ is at the front
abbrev pub ends_comment : List Cell → Bool
ends_comment text = are_bytes asterisk slash (byte_at 0 text) (byte_at 1 text)

-- @> is at the front
abbrev pub has_end_code : List Cell → Bool
has_end_code text = is_end_code (byte_at 0 text) (byte_at 1 text)

-- a section start is at the front
abbrev pub starts_section : List Cell → Bool
starts_section text = is_section_start (byte_at 0 text) (byte_at 1 text)

-- the two cells of the end, if the end is there
abbrev pub two_if : Bool → ℕ
two_if b = if b then 2 else 0

-- the end of a block comment (*/), or of another region (@>), is at the front
abbrev pub ends_region : Region → List Cell → Bool
ends_region region.BlockComment text = ends_comment text
ends_region _ text = has_end_code text

-- a region with these line ends is on one line
abbrev pub is_on_line : List Token → Bool
is_on_line [] = true
is_on_line (t ∷ ts) = false

-- a region ends on its first line, by what has to end it
abbrev pub ends_on_line : Region → List Cell → Bool
ends_on_line r text = is_on_line (line_ends r text) && ends_region r (region_end r text)

-- A block comment or a control text, with the two cells that open it and the two that end it. If
-- its end is missing, it has a fault of this kind.
abbrev pub comment_or_control_text : Region → FaultKind → LexerState → List Cell → Lexeme
comment_or_control_text r kind s text =
    let inside : ℕ = count_before r (drop 2 text) in
    let after : List Cell = drop inside (drop 2 text) in
    white_lexeme (line_ends r (drop 2 text))
    (fault_if (not (ends_region r after)) kind (front_line s.last_line after))
    (1 + inside + two_if (ends_region r after)) s

-- /* up to */; a section start or the end of the source before */ is a fault
abbrev pub block_comment : LexerState → List Cell → Lexeme
block_comment = comment_or_control_text region.BlockComment fault.CommentEnd

-- @^, @., @:, @t or @q, up to @>. The end of the source before @>, or a control code other than @@,
-- is a fault.
abbrev pub control_text : LexerState → List Cell → Lexeme
control_text = comment_or_control_text region.ControlText fault.ControlText

-- // up to the line end, which is not read; a section start before the line end is a fault
abbrev pub line_comment : LexerState → List Cell → Lexeme
line_comment s text =
    let inside : ℕ = count_before region.LineComment (drop 2 text) in
    let after : List Cell = drop inside (drop 2 text) in
    white_lexeme []
    (fault_if (starts_section after) fault.CommentEnd (front_line s.last_line after)) (1 + inside) s
