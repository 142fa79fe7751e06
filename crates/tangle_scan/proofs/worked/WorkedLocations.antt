-- Stretches and the counted origin, on small lists.
use Rattle.std.proofs.Common.{rules}
use Rattle.std.proofs.Common.{◌≡◌, ℕ, true, false, List, [], ◌∷◌, None, codes}
use Rattle.tangle_lines.specs.declared.origin.Origin.{Origin}
use Rattle.tangle_text.specs.declared.spans.Span.{Span}
use Rattle.tangle_lines.specs.Reading.{SourceLine}
use Rattle.tangle_scan.specs.declared.items.Item.TheVariants as item
use Rattle.tangle_scan.specs.declared.items.Item.TheVariants.{Word, Sign, LineMark}
use Rattle.tangle_lexer.specs.declared.tokens.Token.{Token}
use Rattle.tangle_lexer.specs.declared.tokens.SpanKind.TheVariants as span_kind
use Rattle.tangle_lexer.specs.declared.tokens.Token.TheVariants as token
use Rattle.tangle_lexer.specs.declared.tokens.Token.TheVariants.{Join, White, LineEnd, InnerLineEnd, QuoteBreak, UseOf}
use Rattle.tangle_lexer.specs.declared.tokens.Token.TheVariants.{AsciiConstant}
use Rattle.tangle_scan.specs.Rules.{with_all_marks, with_needed_marks}
use Rattle.tangle_scan.specs.LineTruth.{Location, tokens_and_joins, part_locations}

abbrev origin : ℕ → Origin
origin line = record { file = 0; line = line }

-- the source: a line with one byte, a line that is a backslash, so
-- that the next line continues it, and two more lines with one byte
abbrev line : List ℕ → Origin → SourceLine
line bytes origin = record { bytes = bytes; origin = origin; changed = false }

-- the origin of the third line is an argument
abbrev source : Origin → List SourceLine
source third =
    line (codes "a") (origin 0) ∷ line (codes "\\") (origin 1) ∷ line (codes "b") third ∷ line (codes "c") (origin 3) ∷ []

-- the locations of these tokens of a part whose head ends on line `first` of the source
abbrev located : Origin → ℕ → List Token → List Location
located third first tokens = part_locations (source third) first tokens

-- the byte of a line
abbrev at : ℕ → Span
at line = record { line = line; start = 0; end = 1 }

abbrev word : ℕ → Token
word line = token.Span span_kind.Word (at line)

abbrev sign : ℕ → Token
sign line = token.Span span_kind.Sign (at line)

-- the location of a word outside stretches, of one in a stretch, and of the sign of the second line

abbrev here : ℕ → Location
here line = record { item = Word (at line); line = line; in_stretch = false }

abbrev stretch : ℕ → Location
stretch line = record (here line) { in_stretch = true }

abbrev own_sign : Location
own_sign = record (here 1) { item = Sign (at 1) }

-- a join is left of a run with a join and a line end, nothing of one with a join only, and all of one with no join
abbrev joins : List Token
joins = word 1 ∷ White ∷ Join ∷ LineEnd 1 ∷ word 2 ∷ Join ∷ word 2 ∷ White ∷ LineEnd 2 ∷ word 3 ∷ []

-- the end of a continued line begins no stretch, if the next source line is the one that the count expects
abbrev continued : List Token
continued = sign 1 ∷ White ∷ LineEnd 1 ∷ word 2 ∷ LineEnd 2 ∷ word 3 ∷ []

-- if the next source line is another, as one of a change file, no mark is put, and the line is in a stretch, up to the
-- next line end that begins none
abbrev other : Origin
other = record { file = 1; line = 7 }

record Examples : Type 0 where
  pub runs_with_joins : tokens_and_joins [] joins ≡ word 1 ∷ Join ∷ word 2 ∷ word 2 ∷ White ∷ LineEnd 2 ∷ word 3 ∷ []
  -- the join removes a line end: the items after it are in a stretch, up to the next line end
  pub removed_line_end : located (origin 2) 1 joins ≡ here 1 ∷ stretch 2 ∷ stretch 2 ∷ here 3 ∷ []
  -- the items after a line end in a quoted text are in a stretch, up to a mark
  pub quote_break : located other 1 (QuoteBreak 1 ∷ word 2 ∷ UseOf 2 0 ∷ word 2 ∷ []) ≡ stretch 2 ∷ here 2 ∷ []
  -- a line end inside a comment of a directive begins a stretch, and one of a run with a join is removed with the run
  pub inner_line_ends : located (origin 2) 1 (word 1 ∷ White ∷ InnerLineEnd 1 ∷ word 2 ∷ LineEnd 2 ∷ word 3 ∷ [])
      ≡ here 1 ∷ stretch 2 ∷ here 3 ∷ []
  pub inner_line_end_joined : tokens_and_joins [] (word 1 ∷ LineEnd 1 ∷ White ∷ InnerLineEnd 2 ∷ Join ∷ word 3 ∷ [])
      ≡ word 1 ∷ Join ∷ word 3 ∷ []
  pub expected_line : located (origin 2) 1 continued ≡ own_sign ∷ here 2 ∷ here 3 ∷ []
  pub other_line : located other 1 continued ≡ own_sign ∷ stretch 2 ∷ here 3 ∷ []
  -- a line end in a quoted text begins no stretch, if the next source line is the one that the count expects
  pub expected_after_break : located (origin 2) 0 (QuoteBreak 0 ∷ sign 1 ∷ LineEnd 1 ∷ word 2 ∷ [])
      ≡ own_sign ∷ here 2 ∷ []
  -- an ASCII constant has its line
  pub constant_line : located (origin 2) 0 (AsciiConstant 65 7 ∷ [])
      ≡ record (here 7) { item = item.AsciiConstant 65 } ∷ []
  -- a mark follows the end of a line that is not continued
  pub all_marks : with_all_marks (source other) None (sign 1 ∷ LineEnd 1 ∷ word 2 ∷ LineEnd 2 ∷ word 3 ∷ [])
      ≡ Sign (at 1) ∷ item.LineEnd ∷ Word (at 2) ∷ item.LineEnd ∷ LineMark (origin 3) ∷ Word (at 3) ∷ []
  -- the first mark has the origin that is counted, the second has not
  pub needed_marks :
      with_needed_marks [] [] (origin 1)
      (item.LineEnd ∷ LineMark (origin 2) ∷ Word (at 1) ∷ item.LineEnd ∷ LineMark other ∷ Word (at 2) ∷ [])
      ≡ item.LineEnd ∷ Word (at 1) ∷ LineMark other ∷ Word (at 2) ∷ []

examples : Examples
examples = search rules
