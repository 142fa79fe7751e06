-- The items of macros and pieces are on lines of C: each line feed in them is directly after a backslash. They begin
-- and end as texts of their kinds.
use Rattle.std.proofs.lemmas.List.{take-append-drop}
use Rattle.std.proofs.lemmas.List.Folds.{list_any-append}
use Rattle.tangle_c_tokens.proofs.ListLemmas.{all-get, all-map}
use Rattle.tangle_c_tokens.proofs.GroupLemmas.{text-more}
use Rattle.std.proofs.Common.{rules}
use Rattle.std.proofs.Common.{arith}
use Rattle.std.proofs.Common.{◌≡◌, ℕ, zero, suc, ◌+◌, ◌-◌, Bool, true, false, List, [], ◌∷◌, ◌++◌}
use Rattle.std.proofs.Common.{take, drop, get_or}
use Rattle.std.proofs.Common.{Some, refl}
use Rattle.std.specs.Prelude.{◌==◌}
use Rattle.std.specs.List.{list_all}
use Rattle.std.specs.Option.{IfSome}
use Rattle.std.proofs.lemmas.Bool.{and_from}
use Rattle.tangle_lines.specs.Reading.{SourceLine}
use Rattle.tangle_text.specs.Bytes.{backslash}
use Rattle.tangle_text.specs.Text.{texts_of, span_text}
use Rattle.tangle_text.specs.declared.spans.Span.{Span}
use Rattle.tangle_lexer.specs.declared.tokens.Token.{Token}
use Rattle.tangle_lexer.specs.declared.tokens.Token.TheVariants as token
use Rattle.tangle_lexer.specs.SpanBytes.{last_byte}
use Rattle.tangle_scan.specs.Rules.{is_continued, is_front_gap, next_item}
use Rattle.tangle_scan.specs.ReadAsMeant.{written_tokens}
use Rattle.c_tokens.specs.Bytes.{line_feed}
use Rattle.c_lines.proofs.JoinedLemmas.{ends_back, feeds_taken, IsOneLine, back-append, taken-append, taken-more, back-more}
use Rattle.c_lines.proofs.JoinedLemmas.{in-line-taken, spliced-taken}
use Rattle.c_lines.proofs.LineDirectiveLemmas.{digits-line}
use Rattle.tangle_c_tokens.specs.Edges.{begins_as, ends_as}
use Rattle.tangle_c_tokens.specs.Kinds.{HasItsKind, item_kind, is_range, AreTexts}
use Rattle.tangle_c_tokens.specs.LineFeeds.{TextHasNoLineFeed, SourceLinesHaveNoLineFeed}
use Rattle.tangle_c_tokens.specs.Groups.{group_text}
use Rattle.tangle_c_tokens.specs.Macros.{text_of}
use Rattle.tangle_c_tokens.proofs.DecimalLemmas.{decimal-digits}
use Rattle.tangle_c_tokens.proofs.kind_lemmas.Texts.{texts-by}
use Rattle.std.proofs.lemmas.Bool.Decides.{nat_tests}

-- the bytes of spans

-- a text without a line feed has none before and after any byte
no-feed-parts : (n : ℕ) (t : List ℕ) → TextHasNoLineFeed t → TextHasNoLineFeed (take n t) × TextHasNoLineFeed (drop n t)
no-feed-parts n t none =
    grind (arith, nat_tests, list_any-append (λ b. b == line_feed) (take n t) (drop n t), take-append-drop n t)

-- nor has a span of such lines
pub span-clear : (lines : List SourceLine) → SourceLinesHaveNoLineFeed lines → (s : Span) → TextHasNoLineFeed (span_text (texts_of lines) s)
span-clear lines none s =
    let line = all-get TextHasNoLineFeed (texts_of lines) s.line [] refl (all-map TextHasNoLineFeed (λ l. l.bytes) lines none) in
    (no-feed-parts (s.end - s.start) _ (no-feed-parts s.start _ line).1).0

-- the last byte of a range of a text
range-back : (start n : ℕ) (t : List ℕ) → (get_or t (start + n) 0 == backslash) ≡ true
    → ends_back false (take (suc n) (drop start t)) ≡ true
range-back start n [] back = grind (arith, nat_tests)
range-back zero zero (b ∷ t) back = back
range-back zero (suc n) (b ∷ t) back =
    back-more (b == backslash) (take (suc n) t) (range-back zero n t (grind (arith, nat_tests)))
range-back (suc start) n (b ∷ t) back = range-back start n t (grind (arith, nat_tests))

module _ (texts : List (List ℕ)) where
  -- an item begins and ends as a text of its kind does, unless it is a range of a quoted text
  pub record HasItsEdges (e : Token) : Type 0 where
    pub begins : is_range e ≡ false → begins_as (item_kind texts e) (text_of texts e) ≡ true
    pub ends : is_range e ≡ false → ends_as (item_kind texts e) (text_of texts e) ≡ true

  -- the line feeds of an item are directly after backslashes, and an item that continues its line
  -- ends in one; `after` says whether a backslash is directly before the item
  pub record IsOnLine (after : Bool) (e : Token) : Type 0 where
    pub taken : feeds_taken after (text_of texts e) ≡ true
    pub back : is_continued texts (Some e) ≡ true → ends_back false (text_of texts e) ≡ true
    pub edges : HasItsEdges e

  abbrev pub AreOnLine : Bool → List Token → Type 0
  AreOnLine after [] = Unit {0}
  AreOnLine after (token.White ∷ es) = AreOnLine false es
  AreOnLine after (token.LineEnd line ∷ es) = AreOnLine false es
  AreOnLine after (token.UseOf line occurrence ∷ es) = AreOnLine false es
  AreOnLine after (token.AllMacros line ∷ es) = AreOnLine false es
  AreOnLine after (e ∷ es) = IsOnLine after e × AreOnLine (ends_back after (text_of texts e)) es

  -- a backslash before items changes nothing

  back-by : (t : List ℕ) (es : List Token) → ((after : Bool) → AreOnLine false es → AreOnLine after es)
      → (after : Bool) → AreOnLine (ends_back false t) es → AreOnLine (ends_back after t) es
  back-by [] es more after all = more after all
  back-by (b ∷ t) es more after all = all

  pub more-on_line : (es : List Token) (after : Bool) → AreOnLine false es → AreOnLine after es
  more-on_line [] after all = tt
  more-on_line (token.White ∷ es) after all = all
  more-on_line (e ∷ es) after all =
      search (rules, taken-more, back-by (text_of texts e) es (more-on_line es))

  -- the ranges and breaks of a quoted text

  part-on_line : (part : List Token) (after : Bool) (ts : List Token) → list_all is_range part ≡ true
      → feeds_taken after (group_text texts part) ≡ true → AreOnLine (ends_back after (group_text texts part)) ts
      → AreOnLine after (part ++ ts)
  part-on_line [] after ts ranges taken rest = rest
  part-on_line (e ∷ part) after ts ranges taken rest =
      grind (arith, nat_tests, part-on_line part, taken-append, back-append)

  -- a group with one item more, and the tokens after it

  pub record IsLast (items : List Token) (e : Token) : Type 0 where
    pub one : IsOneLine (group_text texts (items ++ e ∷ []))
    pub edges : HasItsEdges e

  solid-on_line : (after : Bool) (e : Token) (es : List Token) → is_front_gap e ≡ false → AreOnLine after (e ∷ es)
      → IsOnLine after e × AreOnLine (ends_back after (text_of texts e)) es
  solid-on_line after e es item on = search (rules, more-on_line es)

  pub one-more : (items : List Token) (e : Token) (es : List Token) → is_front_gap e ≡ false
      → IsOneLine (group_text texts items)
      → AreOnLine (ends_back false (group_text texts items)) (e ∷ es)
      → IsLast items e × AreOnLine (ends_back false (group_text texts (items ++ e ∷ []))) es
  one-more items e es item one on =
      let next = solid-on_line (ends_back false (group_text texts items)) e es item on in
      search (rules, text-more, taken-append, back-append, and_from, next.0.taken, next.0.edges, next.1)

  -- the next item after white space and line ends
  pub next-edges : (es : List Token) (after : Bool) → AreOnLine after es → IfSome (next_item es) HasItsEdges
  next-edges [] after all = tt
  next-edges (e ∷ es) after all = search (rules, next-edges es)

  -- the tokens that are written of a macro are the first ones

  pub written-on_line : (es : List Token) (after : Bool) → AreOnLine after es → AreOnLine after (written_tokens texts es)
  written-on_line [] after all = tt
  written-on_line (e ∷ es) after all = search (rules, written-on_line es)

-- tokens that are texts, one after another
module _ (lines : List SourceLine) (none : SourceLinesHaveNoLineFeed lines) where
  abbrev texts : List (List ℕ)
  texts = texts_of lines

  span-taken : (after : Bool) (s : Span) → feeds_taken after (span_text texts s) ≡ true
  span-taken after s = in-line-taken after (span_text texts s) (span-clear lines none s)

  -- a verbatim text that continues its line

  verbatim-back : (s : Span) → (last_byte texts s == backslash) ≡ true → ends_back false (span_text texts s) ≡ true
  verbatim-back s back = grind (arith, nat_tests, range-back s.start (s.end - s.start - 1) (get_or texts s.line []))

  first-on_line : (e : Token) (es : List Token) → is_range e ≡ false → HasItsKind texts e → AreOnLine texts false es
      → AreOnLine texts false (e ∷ es)
  first-on_line token.White es alone kind rest = rest
  first-on_line e es alone kind rest = search (rules, more-on_line texts es, span-taken, verbatim-back, in-line-taken, digits-line, decimal-digits)

  pub texts-on_line : (es : List Token) → AreTexts texts es → AreOnLine texts false es
  texts-on_line =
      texts-by texts (AreOnLine texts false) tt (λ e es alone kind all rest. first-on_line e es alone kind rest)
      (λ t part es quoted all rest.
      part-on_line texts (t ∷ part) false es quoted.ranges (spliced-taken (group_text texts (t ∷ part)) quoted.one_line)
      (more-on_line texts es _ rest))
