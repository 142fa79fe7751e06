-- The table of what may touch rests on C's grammar of tokens: the words, signs and quoted texts of
-- a web are texts of the kinds that the table gives them.
use Rattle.std.specs.Prelude.{◌≡◌, ◌⊎◌, ℕ, Bool, true, false, ◌==◌, ◌&&◌, ◌||◌, not, if◌then◌else◌}
use Rattle.std.specs.Prelude.{List, [], ◌∷◌, take, flat_map, codes}
use Rattle.std.specs.List.{AllByRecursion, list_all}
use Rattle.std.specs.Str.{bytes_eq}
use Rattle.tangle_text.specs.Text.{span_text}
use Rattle.tangle_text.specs.Bytes.{less_sign, greater_sign, is_digit}
use Rattle.tangle_lexer.specs.declared.tokens.Token.{Token}
use Rattle.tangle_lexer.specs.declared.tokens.Token.TheVariants as token
use Rattle.tangle_lexer.specs.declared.tokens.SpanKind.TheVariants as span_kind
use Rattle.tangle_lexer.specs.SpanBytes.{first_byte}
use Rattle.tangle_scan.specs.ReadAsMeant.{token_bytes}
use Rattle.c_tokens.specs.Bytes.{line_feed, double_quote, apostrophe}
use Rattle.c_tokens.specs.Grammar.{is_number, ends_quoted, has_prefix}
use Rattle.c_tokens.specs.Reading.{spliced}
use Rattle.c_tokens.specs.Touching.{TextKind, is_separator, is_operator, is_one, IsOfKind}
use Rattle.c_tokens.specs.Touching.TextKind.{Separator, Operator, Plain, Other}
use Rattle.c_tokens.specs.Borders.{has_bytes}
use Rattle.tangle_c_tokens.specs.Edges.{begins_as, ends_as}
use Rattle.tangle_c_tokens.specs.Groups.{group_text}
use Rattle.tangle_c_tokens.specs.LineFeeds.{TextHasNoLineFeed}

-- a text of this kind, which has a byte, and begins and ends as such texts do
pub record IsTextOfKind (kind : TextKind) (text : List ℕ) : Type 0 where
  pub is : IsOfKind kind text
  pub bytes : has_bytes text ≡ true
  pub begins : begins_as kind text ≡ true
  pub ends : ends_as kind text ≡ true

module _ (texts : List (List ℕ)) where
  -- the kind of text that an item is for C
  abbrev pub item_kind : Token → TextKind
  item_kind (token.Span span_kind.Sign s) =
      let b : ℕ = first_byte texts s in
      if is_separator b then Separator else if is_operator b then Operator else Other
  item_kind (token.Span span_kind.Word s) = if is_digit (first_byte texts s) then Other else Plain
  item_kind (token.Span span_kind.Quoted s) = Plain
  item_kind _ = Other

  -- A word or a sign is of its kind, a word that begins with a digit is one number, and a sign is one
  -- byte. Nothing is said of verbatim texts, which the author answers for, nor of tokens without
  -- bytes of the source.
  abbrev pub HasItsKind : Token → Type 0
  HasItsKind (token.Span span_kind.Word s) =
      IsTextOfKind (item_kind (token.Span span_kind.Word s)) (span_text texts s)
      × (is_digit (first_byte texts s) ≡ true → is_number (span_text texts s) ≡ true)
  HasItsKind (token.Span span_kind.Sign s) =
      IsTextOfKind (item_kind (token.Span span_kind.Sign s)) (span_text texts s)
      × (is_one (λ b. b == first_byte texts s) (span_text texts s) ≡ true)
  HasItsKind _ = Unit {0}

-- Quoted texts are cut into ranges, after the first @ of each @@, and at a line end after a
-- backslash, where a break is. The ranges and breaks of a text are one token for C.

abbrev pub is_range : Token → Bool
is_range (token.Span span_kind.Quoted s) = true
is_range (token.QuoteBreak line) = true
is_range _ = false

-- header-name (C23, 6.4.7), after its `<`: characters other than `>` and the line feed, and then
-- `>`, which is the last byte
abbrev pub ends_header_name : List ℕ → Bool
ends_header_name [] = false
ends_header_name (b ∷ []) = b == greater_sign
ends_header_name (b ∷ c ∷ bs) =
    not (b == greater_sign || b == line_feed) && ends_header_name (c ∷ bs)

abbrev pub is_header_name : List ℕ → Bool
is_header_name = has_prefix (less_sign ∷ []) ends_header_name

-- a text that begins with this byte, and of which no front ends, by a test of the bytes after it
abbrev pub IsOpen : ℕ → (List ℕ → Bool) → List ℕ → Type 0
IsOpen opening ends [] = ⊥
IsOpen opening ends (b ∷ bs) = (b ≡ opening) × ((n : ℕ) → ends (take n bs) ≡ false)

-- A quoted text of a web is of the kind of C's string literals and character constants, except for
-- `''`, for a header name, such as `<x>` after `#include`, and for a text that does not end, which
-- is a fault. For C these are several tokens, unless the header name is in a directive.
abbrev pub IsQuoted : List ℕ → Type 0
IsQuoted text =
    IsTextOfKind Plain text
    ⊎ ((bytes_eq (spliced text) (codes "''") ≡ true) ⊎ ((is_header_name text ≡ true)
    ⊎ (IsOpen double_quote (ends_quoted double_quote) (spliced text)
    ⊎ (IsOpen apostrophe (ends_quoted apostrophe) (spliced text)
    ⊎ IsOpen less_sign ends_header_name text))))

module _ (texts : List (List ℕ)) where
  -- all ranges and breaks of a quoted text, each of which has a byte, and each line feed of which is
  -- directly after a backslash
  pub record IsQuotedText (part : List Token) : Type 0 where
    pub ranges : list_all is_range part ≡ true
    pub bytes : list_all (λ t. has_bytes (token_bytes texts (λ t. []) t)) part ≡ true
    pub quoted : IsQuoted (group_text texts part)
    pub one_line : TextHasNoLineFeed (spliced (group_text texts part))

  -- one token, which is no part of a quoted text
  abbrev pub IsAlone : List Token → Type 0
  IsAlone (t ∷ []) = (is_range t ≡ false) × HasItsKind texts t
  IsAlone _ = ⊥

  -- Tokens that are texts, one after another: each is one token, or a whole quoted text.
  abbrev pub AreTexts : List Token → Type 0
  AreTexts tokens =
      (parts : List (List Token)) × (tokens ≡ flat_map (λ part. part) parts)
      × AllByRecursion (λ part. IsAlone part ⊎ IsQuotedText part) parts
