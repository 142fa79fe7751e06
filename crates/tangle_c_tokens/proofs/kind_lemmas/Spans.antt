-- The spans of words and signs have bytes of their kinds.
use Rattle.std.proofs.Common.{rules}
use Rattle.std.proofs.Common.{◌≡◌, ℕ, suc, ◌+◌, Bool, true, false, List, ◌∷◌, Option, Some, None, take}
use Rattle.std.proofs.Common.{refl, ap, sym, ◌∙◌, subst, arith}
use Rattle.std.specs.Prelude.{◌||◌, ◌==◌, not, if◌then◌else◌}
use Rattle.std.specs.List.{list_all}
use Rattle.std.proofs.lemmas.Bool.{and_parts, and_from, or_left, eqb-true}
use Rattle.tangle_text.specs.declared.regions.Region.TheVariants as region
use Rattle.tangle_text.specs.declared.regions.Unit.TheVariants as unit
use Rattle.tangle_text.specs.Bytes.{apostrophe, is_word_byte, is_digit}
use Rattle.tangle_text.specs.Text.{Cell, bytes_by, line_bytes, span_at, span_text}
use Rattle.tangle_text.specs.Regions.{unit_by, unit_of, is_separator, count_before}
use Rattle.tangle_text.specs.Words.{word_region, word_more}
use Rattle.tangle_lexer.specs.declared.tokens.SpanKind.TheVariants as span_kind
use Rattle.tangle_lexer.specs.declared.tokens.Token.TheVariants as token
use Rattle.tangle_lexer.proofs.laws.RegionUnits.{units-by}
use Rattle.c_tokens.specs.Grammar.{is_number, apostrophes_separate}
use Rattle.c_tokens.specs.Touching.TextKind.{Plain, Other}
use Rattle.tangle_c_tokens.specs.Kinds.{IsTextOfKind, HasItsKind}
use Rattle.tangle_lexer.proofs.laws.Points.{Point, IsByte, HoldsBytes, IsTextAt}
use Rattle.tangle_lexer.proofs.laws.WhiteOrder.{word-bytes as word-cells}
use Rattle.std.proofs.Math.Numerals.{one-add}
use Rattle.tangle_c_tokens.proofs.kind_lemmas.Lines.{AreClear, byte-is, span-bytes}
use Rattle.c_tokens.proofs.NumberLemmas.{is_separated_byte, separated-number, separates-word, separates-more}
use Rattle.tangle_c_tokens.proofs.kind_lemmas.WordKinds.{number-text, plain-text}
use Rattle.std.proofs.lemmas.Bool.Decides.{nat_tests}

-- the cells of a word have word bytes
word-bytes : (text : List Cell) → list_all is_word_byte (take (count_before region.Word text) (line_bytes text)) ≡ true
word-bytes =
    units-by region.Word (λ n text. list_all is_word_byte (take n (line_bytes text)) ≡ true) (λ text e. refl) refl
    (λ n c cs e h. grind (arith, nat_tests)) (λ n c d cs e h. grind (arith, nat_tests)) (λ c e. grind (arith, nat_tests))

-- the cells of a number after its first have word bytes, and apostrophes that separate them

abbrev IsSeparated : List ℕ → Type 0
IsSeparated a = (list_all is_separated_byte a ≡ true) × (apostrophes_separate a ≡ true)

unit-two : (word separator : Bool) → unit_by (not (word || separator)) separator ≡ unit.Two → separator ≡ true
unit-two word separator e = grind (arith, nat_tests)

more-separated : (b : ℕ) (a : List ℕ) → is_word_byte b ≡ true → IsSeparated a → IsSeparated (b ∷ a)
more-separated b a word h = search (rules, and_from, is_separated_byte, or_left, separates-word)

number-bytes : (text : List Cell) → IsSeparated (take (count_before region.Number text) (line_bytes text))
number-bytes =
    units-by region.Number (λ n text. IsSeparated (take n (line_bytes text))) (λ text e. (refl, refl)) (refl, refl)
    (λ n c cs e h. grind (arith, nat_tests, λ (b : ℕ). more-separated b (take n (line_bytes cs)))) (λ n c d cs e h. two n cs h c.byte d.byte e)
    (λ c e. grind (arith, nat_tests))
  where
    two : (n : ℕ) (cs : List Cell) → IsSeparated (take n (line_bytes cs)) → (b next : Option ℕ)
        → unit_of region.Number b next ≡ unit.Two
        → IsSeparated (take (suc (suc n)) (bytes_by b (bytes_by next (line_bytes cs))))
    two n cs h None next e = grind (arith, nat_tests)
    two n cs h (Some b) None e = grind (arith, nat_tests)
    two n cs h (Some b) (Some c) e =
        let a = take n (line_bytes cs) in
        let parts = and_parts (b == apostrophe) (is_word_byte c) (unit-two (is_word_byte b) (is_separator (Some b) (Some c)) e) in
        let more = more-separated c a parts.1 h in
        rw (eqb-true b apostrophe parts.0) (more.0, separates-more c a parts.1 h.0 more.1)

-- a word with this first byte is of its kind
abbrev IsWord : ℕ → List ℕ → Type 0
IsWord b text = IsTextOfKind (if is_digit b then Other else Plain) text × (is_digit b ≡ true → is_number text ≡ true)

word-is : (b : ℕ) (cs : List Cell) → is_word_byte b ≡ true →
    IsWord b (b ∷ take (count_before (word_region (Some b)) cs) (line_bytes cs))
word-is b cs word = by (is_digit b) refl
  where
    by : (digit : Bool) → is_digit b ≡ digit →
        let text = b ∷ take (count_before (if digit then region.Number else region.Word) cs) (line_bytes cs) in
        IsTextOfKind (if digit then Other else Plain) text × (digit ≡ true → is_number text ≡ true)
    by true e =
        let a = take (count_before region.Number cs) (line_bytes cs) in
        let all = more-separated b a word (number-bytes cs) in
        (number-text b a all.0, λ is. separated-number b a e all.0 all.1)
    by false e =
        let a = take (count_before region.Word cs) (line_bytes cs) in
        (plain-text b a e (and_from (is_word_byte b) (list_all is_word_byte a) word (word-bytes cs)), λ is. cc)

module _ (texts : List (List ℕ)) (clear : AreClear texts) where
  -- the text of a span that begins with this byte
  at-byte : (n : ℕ) (at : Point) (c : Cell) (cs : List Cell) (b : ℕ) → c.byte ≡ Some b → HoldsBytes n (c ∷ cs)
      → IsTextAt texts at (c ∷ cs) → span_text texts (span_at n (c ∷ cs)) ≡ take n (b ∷ line_bytes cs)
  at-byte n at c cs b e bytes is =
      grind (arith, nat_tests, span-bytes texts clear n at (c ∷ cs) is bytes, e, is.0.line, is.0.column)

  pub sign-span : (at : Point) (c : Cell) (cs : List Cell) (b : ℕ) → c.byte ≡ Some b → IsTextAt texts at (c ∷ cs)
      → HasItsKind texts (token.Span span_kind.Sign (span_at 1 (c ∷ cs)))
  sign-span at c cs b e is =
      let first = (byte-is texts clear at c cs b e is).first in
      let text = at-byte 1 at c cs b e (subst IsByte (sym e) tt, tt) is in
      (grind (arith, nat_tests, first, text), grind (arith, nat_tests, first, text))

  pub word-span : (at : Point) (c : Cell) (cs : List Cell) (b : ℕ) → c.byte ≡ Some b → is_word_byte b ≡ true
      → IsTextAt texts at (c ∷ cs)
      → HasItsKind texts (token.Span span_kind.Word (span_at (1 + word_more (c ∷ cs)) (c ∷ cs)))
  word-span at c cs b e word is =
      let n = word_more (c ∷ cs) in
      let same : n ≡ count_before (word_region (Some b)) cs = ap (λ x. count_before (word_region x) cs) e in
      let text = at-byte (1 + n) at c cs b e (word-cells c cs (subst IsByte (sym e) tt)) is
      ∙ ap (λ k. take k (b ∷ line_bytes cs)) (one-add n) ∙ ap (λ k. b ∷ take k (line_bytes cs)) same in
      rw ((byte-is texts clear at c cs b e is).first, text) (word-is b cs word)
