-- Raw strings of C++. CWEB has none: it reads each as a quoted text, which may end elsewhere.
use Rattle.std.specs.Prelude.{ℕ, ◌+◌, ◌-◌, ◌*◌, Bool, true, false, ◌==◌, nat_le, ◌&&◌, ◌||◌, not}
use Rattle.std.specs.Prelude.{List, [], ◌∷◌, length}
use Rattle.std.specs.Prelude.{take, drop, get_or, slice_get, codes, Some, None}
use Rattle.std.specs.List.{list_all, prefix_len}
use Rattle.std.specs.Str.{bytes_eq}
use Rattle.tangle_lines.specs.Bytes.{double_quote, is_white}
use Rattle.tangle_text.specs.Bytes.{backslash, left_parenthesis, holds}
use Rattle.tangle_text.specs.Text.{span_text}
use Rattle.tangle_text.specs.Regions.{unit_of}
use Rattle.tangle_text.specs.declared.regions.Region.TheVariants as region
use Rattle.tangle_text.specs.declared.regions.Unit.{Unit as Unit-of}
use Rattle.tangle_text.specs.declared.regions.Unit.TheVariants as unit
use Rattle.tangle_text.specs.declared.spans.Span.{Span}
use Rattle.tangle_lexer.specs.SpanBytes.{first_byte}
use Rattle.tangle_lexer.specs.declared.tokens.Token.{Token}
use Rattle.tangle_lexer.specs.declared.tokens.Token.TheVariants as token
use Rattle.tangle_lexer.specs.declared.tokens.SpanKind.TheVariants as span_kind

abbrev pub right_parenthesis : ℕ
right_parenthesis = 41

-- a word that makes a raw string of the quoted text directly after it
abbrev pub is_raw_prefix : List ℕ → Bool
is_raw_prefix word =
    bytes_eq word (codes "R") || bytes_eq word (codes "LR") || bytes_eq word (codes "uR")
    || bytes_eq word (codes "UR") || bytes_eq word (codes "u8R")

-- the number of bytes of a quoted text from here on to its closing byte or to the end of the line,
-- which a backslash at that end goes past
abbrev pub size_by : Unit-of → ℕ → ℕ → ℕ
size_by unit.Stop after_one after_two = 0
size_by unit.One after_one after_two = 1 + after_one
size_by unit.Two after_one after_two = 2 + after_two

abbrev pub quoted_size : List ℕ → ℕ
quoted_size [] = 0
quoted_size (b ∷ []) = size_by (unit_of region.DoubleQuote (Some b) None) 0 0
quoted_size (b ∷ c ∷ bytes) =
    size_by (unit_of region.DoubleQuote (Some b) (Some c)) (quoted_size (c ∷ bytes))
    (quoted_size bytes)

abbrev pub is_in_delimiter : ℕ → Bool
is_in_delimiter b = not (is_white b || b == right_parenthesis || b == backslash)

-- What is between the quotes is d(x)d, where the delimiter d is what is before the first opening
-- parenthesis: at most 16 bytes, none of them white space, a closing parenthesis or a backslash.

abbrev pub is_before_parenthesis : ℕ → Bool
is_before_parenthesis b = not (b == left_parenthesis)

abbrev pub is_delimited : List ℕ → Bool
is_delimited bytes =
    let size : ℕ = prefix_len is_before_parenthesis bytes in
    nat_le size 16 && nat_le (2 * size + 2) (length bytes)
    && get_or bytes (length bytes - size - 1) 0 == right_parenthesis
    && list_all is_in_delimiter (take size bytes)
    && bytes_eq (drop (length bytes - size) bytes) (take size bytes)

-- The raw string whose opening quote is before these bytes of a line is whole: it ends where C++
-- ends it, on this line.
abbrev pub is_whole : List ℕ → Bool
is_whole bytes =
    holds double_quote (slice_get bytes (quoted_size bytes))
    && is_delimited (take (quoted_size bytes) bytes)

module _ (texts : List (List ℕ)) where
  -- a double quote begins this quoted text directly after an R, as in a raw string
  abbrev pub follows_r : Span → Bool
  follows_r quoted =
      first_byte texts quoted == double_quote
      && get_or (get_or texts quoted.line []) (quoted.start - 1) 0 == 82

  -- A quoted text is a raw string that is not whole, if this word is before it: the word is such a
  -- prefix, and nothing is between the two.
  abbrev pub is_cut : Span → Span → Bool
  is_cut word quoted =
      follows_r quoted && word.line == quoted.line && word.end == quoted.start
      && is_raw_prefix (span_text texts word)
      && not (is_whole (drop (quoted.start + 1) (get_or texts quoted.line [])))

  abbrev pub begins_after_r : Token → Bool
  begins_after_r (token.Span span_kind.Quoted s) = follows_r s
  begins_after_r e = false

  -- a token that may have a fault: it is one, or begins as a raw string does
  abbrev pub may_have_fault : Token → Bool
  may_have_fault (token.Fault kind line) = true
  may_have_fault e = begins_after_r e
