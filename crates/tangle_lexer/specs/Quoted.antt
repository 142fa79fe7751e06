-- Quoted and verbatim texts. They are cut after the first @ of each @@ and at a line end inside, so
-- that the bytes of an item are always a range of a line.
use Rattle.std.specs.Prelude.{Bool, false, ◌&&◌, ℕ, ◌+◌, zero, suc, nat_lt, List, [], ◌∷◌, ◌++◌}
use Rattle.std.specs.Prelude.{drop, if◌then◌else◌, Option}
use Rattle.tangle_faults.specs.declared.faults.FaultKind.TheVariants as fault
use Rattle.tangle_text.specs.declared.spans.Span.{Span}
use Rattle.tangle_text.specs.declared.regions.Region.{Region}
use Rattle.tangle_text.specs.declared.regions.Region.TheVariants as region
use Rattle.tangle_text.specs.declared.regions.Unit.{Unit as Unit-of}
use Rattle.tangle_text.specs.declared.regions.Unit.TheVariants as unit
use Rattle.tangle_lexer.specs.declared.modes.IncludeState.TheVariants as include
use Rattle.tangle_lexer.specs.declared.modes.LexerState.{LexerState}
use Rattle.tangle_lexer.specs.declared.tokens.Token.{Token}
use Rattle.tangle_lexer.specs.declared.tokens.SpanKind.{SpanKind}
use Rattle.tangle_lexer.specs.declared.tokens.SpanKind.TheVariants as span_kind
use Rattle.tangle_lexer.specs.declared.tokens.Token.TheVariants as token
use Rattle.tangle_lines.specs.Bytes.{at_sign}
use Rattle.tangle_text.specs.Bytes.{backslash, holds, is_line_end}
use Rattle.tangle_text.specs.Text.{Cell, byte_at, front_column, span_at}
use Rattle.tangle_text.specs.Regions.{unit_at, more_by, units, count_before}
use Rattle.tangle_lexer.specs.LinesOfC.{after_item}
use Rattle.tangle_lexer.specs.Lexemes.{Lexeme, lexeme_of, elsewhere, with_line, fault_if}
use Rattle.tangle_lexer.specs.Comments.{has_end_code, two_if}

-- the kind of the ranges that a region is cut into
abbrev pub kind_in : Region → SpanKind
kind_in region.Verbatim = span_kind.Verbatim
kind_in _ = span_kind.Quoted

-- the token of a range of a region
abbrev pub range_token : Region → Span → Token
range_token r s = token.Span (kind_in r) s

-- the range of a line from column `start` up to column `end`; an empty range is no token
abbrev pub cut_range : Region → ℕ → ℕ → ℕ → List Token
cut_range r line start end =
    if nat_lt start end then range_token r (record { line = line; start = start; end = end }) ∷ []
    else []

-- The tokens of a unit inside a text. For @@: the range up to its first @. For a backslash and a
-- line end: the range up to the backslash, and the break. For an @ alone: a fault, and the @ is
-- kept.
abbrev pub unit_tokens : Region → Unit-of → ℕ → Cell → Option ℕ → List Token
unit_tokens r unit.Two start c next =
    if holds at_sign c.byte then cut_range r c.line start (c.column + 1) else
    if holds backslash c.byte && is_line_end next
    then cut_range r c.line start (c.column + 1) ++ token.QuoteBreak c.line ∷ []
    else []
unit_tokens r _ start c next = fault_if (holds at_sign c.byte) fault.StringAt c.line

-- the column where the range after a unit starts: after the second @ of @@, or 0 after a line end
abbrev pub next_start : Unit-of → ℕ → Cell → Option ℕ → ℕ
next_start unit.Two start c next =
    if holds at_sign c.byte then c.column + 2
    else if holds backslash c.byte && is_line_end next then 0
    else start
next_start _ start c next = start

-- the tokens `ending` if the unit ends the region, else `others`
abbrev pub at_stop : Unit-of → List Token → List Token → List Token
at_stop unit.Stop ending others = ending
at_stop _ ending others = others

-- The tokens of a text that is cut. `ends` gives the last tokens, by the column where the last
-- range starts and by the text from the end of the region on. `k` cells at the front belong to an
-- earlier unit, and the current range starts at column `start`.
abbrev pub cut_tokens : (ℕ → List Cell → List Token) → Region → ℕ → ℕ → List Cell → List Token
cut_tokens ends r k start [] = ends start []
cut_tokens ends r (suc k) start (c ∷ cs) = cut_tokens ends r k start cs
cut_tokens ends r zero start (c ∷ cs) =
    at_stop (unit_at r (c ∷ cs)) (ends start (c ∷ cs))
    (unit_tokens r (unit_at r (c ∷ cs)) start c (byte_at 0 cs)
    ++ cut_tokens ends r (more_by (unit_at r (c ∷ cs)))
    (next_start (unit_at r (c ∷ cs)) start c (byte_at 0 cs)) cs)

-- quoted texts

-- The end of a quoted text: the last range includes the closing byte. A line end or the end of the
-- source instead is a fault.
abbrev pub quote_end : Region → ℕ → ℕ → ℕ → List Cell → List Token
quote_end r close last start [] = token.Fault fault.StringEnd last ∷ []
quote_end r close last start (c ∷ cs) =
    if holds close c.byte then cut_range r c.line start (c.column + 1)
    else cut_range r c.line start c.column ++ token.Fault fault.StringEnd c.line ∷ []

-- the one cell of the closing byte, if that is there
abbrev pub one_if : Bool → ℕ
one_if b = if b then 1 else 0

-- A quoted text that this byte closes. The first range includes the opening byte.
abbrev pub quoted_text : Region → ℕ → LexerState → List Cell → Lexeme
quoted_text r close s text =
    let inside : ℕ = count_before r (drop 1 text) in
    lexeme_of (cut_tokens (quote_end r close s.last_line) r 0 (front_column text) (drop 1 text))
    (inside + one_if (holds close (byte_at 0 (drop inside (drop 1 text))))) (elsewhere s)

-- verbatim texts

-- The last range of a verbatim text, and a fault if a line end ends the text. No verbatim text
-- reaches the end of the source: the line end before that ends the text.
abbrev pub verbatim_end : ℕ → List Cell → List Token
verbatim_end start [] = []
verbatim_end start (c ∷ cs) =
    cut_range region.Verbatim c.line start c.column
    ++ fault_if (is_line_end c.byte) fault.VerbatimEnd c.line

-- An empty verbatim text is one empty item, which keeps the white space on both sides of it.
abbrev pub empty_text : List Cell → List Token
empty_text text =
    at_stop (unit_at region.Verbatim text) (token.Span span_kind.Verbatim (span_at 0 text) ∷ []) []

-- the tokens after @=
abbrev pub verbatim_tokens : List Cell → List Token
verbatim_tokens text =
    empty_text text ++ cut_tokens verbatim_end region.Verbatim 0 (front_column text) text

-- The last of these units is a backslash; `last`: the unit before them is one. A backslash is always
-- a unit by itself.
abbrev pub last_is_backslash : Bool → List (List Cell) → Bool
last_is_backslash last [] = last
last_is_backslash last (u ∷ us) = last_is_backslash (holds backslash (byte_at 0 u)) us

-- the verbatim text at the front ends in a backslash
abbrev pub verbatim_ends_in_backslash : List Cell → Bool
verbatim_ends_in_backslash text = last_is_backslash false (units region.Verbatim text)

-- @= and the text up to @> on the same line
abbrev pub verbatim_text : LexerState → List Cell → Lexeme
verbatim_text s text =
    let inside : ℕ = count_before region.Verbatim (drop 2 text) in
    lexeme_of (verbatim_tokens (drop 2 text))
    (1 + inside + two_if (has_end_code (drop inside (drop 2 text))))
    (with_line (after_item include.Elsewhere false (verbatim_ends_in_backslash (drop 2 text)) s.line) s)
