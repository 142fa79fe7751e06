-- The bytes of string literals, character constants and header names, unit by unit: those of a text that ends, and
-- those of one that does not.
use Rattle.std.proofs.Common.{rules}
use Rattle.std.proofs.Common.{arith}
use Rattle.std.proofs.Common.{◌≡◌, ℕ, zero, suc, Bool, true, false, not, List, [], ◌∷◌, take, Option, Some}
use Rattle.std.proofs.Common.{refl, sym, ◌∙◌, subst}
use Rattle.std.specs.Prelude.{◌==◌, ◌&&◌, ◌||◌, slice_get}
use Rattle.std.proofs.lemmas.Bool.{or_parts}
use Rattle.std.proofs.lemmas.Bool.{eqb-true, eq-eqb, not-false}
use Rattle.tangle_lexer.specs.declared.tokens.SpanKind.TheVariants as span_kind
use Rattle.tangle_lexer.specs.Quoted.{kind_in}
use Rattle.tangle_lexer.proofs.laws.CutTexts.{IsCut, header_name-cut}
use Rattle.tangle_c_tokens.proofs.kind_lemmas.QuotedTexts.{IsQuoteRegion, IsByUnits}
use Rattle.tangle_lines.specs.Bytes.{at_sign}
use Rattle.tangle_text.specs.declared.regions.Region.{Region}
use Rattle.tangle_text.specs.declared.regions.Region.TheVariants as region
use Rattle.tangle_text.specs.declared.regions.Unit.TheVariants as unit
use Rattle.tangle_text.specs.Bytes.{holds, are_bytes, backslash, greater_sign}
use Rattle.tangle_text.specs.Regions.{unit_by, unit_of, quoted_unit}
use Rattle.c_tokens.specs.Bytes.{line_feed}
use Rattle.c_tokens.specs.Grammar.{ends_quoted}
use Rattle.c_tokens.specs.Reading.{spliced}
use Rattle.tangle_c_tokens.specs.Kinds.{ends_header_name}
use Rattle.std.proofs.lemmas.Bool.Decides.{nat_tests}

-- the tests of a unit

goes-one : (ends two : Bool) → unit_by ends two ≡ unit.One → (ends ≡ false) × (two ≡ false)
goes-one ends two e = grind (arith, nat_tests)

-- the bytes after the first one of a text end it, by this test, or no front of them does
abbrev pub Gives : Bool → (List ℕ → Bool) → List ℕ → Type 0
Gives true test bs = test bs ≡ true
Gives false test bs = (n : ℕ) → test (take n bs) ≡ false

pub gives-nothing : (test : List ℕ → Bool) → test [] ≡ false → Gives false test []
gives-nothing test h zero = h
gives-nothing test h (suc n) = h

-- a byte that such a test passes over
abbrev PassesOver : (List ℕ → Bool) → ℕ → Type 0
PassesOver test b = (t : List ℕ) → test (b ∷ t) ≡ test t

gives-more : (test : List ℕ → Bool) (b : ℕ) → test [] ≡ false → PassesOver test b → (ends : Bool) (t : List ℕ) → Gives ends test t
    → Gives ends test (b ∷ t)
gives-more test b none over true t h = over t ∙ h
gives-more test b none over false t h = all
  where
    all : Gives false test (b ∷ t)
    all zero = none
    all (suc n) = over (take n t) ∙ h n

gives-after : (test : List ℕ → Bool) (b : ℕ) → PassesOver test b → (ends : Bool) (t : List ℕ) → Gives ends test (b ∷ t) → Gives ends test t
gives-after test b over true t h = sym (over t) ∙ h
gives-after test b over false t h = λ n. sym (over (take n t)) ∙ h (suc n)

-- a byte before bytes that do not begin with a line feed is kept
pub kept-first : (b : ℕ) (q : List ℕ) → holds line_feed (slice_get q 0) ≡ false → spliced (b ∷ q) ≡ b ∷ spliced q
kept-first b q h = search rules

-- texts in quotes
module _ (close : ℕ) (no_sign : (at_sign == close) ≡ false) (no_back : (backslash == close) ≡ false) where
  abbrev GivesQuoted : Bool → List ℕ → Type 0
  GivesQuoted ends t = Gives ends (ends_quoted close) t

  over-byte : (b : ℕ) → (b == backslash) ≡ false → (b == close) ≡ false → (b == line_feed) ≡ false → PassesOver (ends_quoted close) b
  over-byte b back closing feed t = grind (arith, nat_tests)

  gives-byte : (ends : Bool) (b : ℕ) (t : List ℕ) → (b == backslash) ≡ false → (b == close) ≡ false
      → (b == line_feed) ≡ false → GivesQuoted ends t → GivesQuoted ends (b ∷ t)
  gives-byte ends b t back closing feed = gives-more (ends_quoted close) b refl (over-byte b back closing feed) ends t

  -- a backslash and the byte after it
  gives-escape : (ends : Bool) (y : ℕ) (t : List ℕ) → (y == line_feed) ≡ false → GivesQuoted ends t
      → GivesQuoted ends (backslash ∷ y ∷ t)
  gives-escape true y t feed h = grind (arith, nat_tests)
  gives-escape false y t feed h = all
    where
      all : GivesQuoted false (backslash ∷ y ∷ t)
      all zero = search rules
      all (suc zero) = cc no_back
      all (suc (suc n)) = search rules

  module _ (r : Region) (is : (b n : Option ℕ) → unit_of r b n ≡ quoted_unit close b n) (cut : IsCut r)
      (kind : kind_in r ≡ span_kind.Quoted) where
    pub quote-region : IsQuoteRegion r close
    quote-region = search (rules, cut, kind, nat_tests)

    one-by : (ends back : Bool) (b : ℕ) (q : List ℕ) → (b == backslash) ≡ back → (b == close) ≡ false
        → (b == line_feed) ≡ false
        → (back && not (holds at_sign (slice_get q 0))) ≡ false → GivesQuoted ends (spliced q) → GivesQuoted ends
        (b ∷ spliced q)
    one-by ends false b q back closing feed pair h = gives-byte ends b (spliced q) back closing feed h
    one-by ends true b q back closing feed pair h =
        subst (λ k. GivesQuoted ends (k ∷ spliced q)) (sym (eqb-true b backslash back))
        (search (rules, gives-escape, not-false, gives-after (ends_quoted close) at_sign (over-byte at_sign refl no_sign refl)))

    pub quote-units : IsByUnits r close (λ ends q. GivesQuoted ends (spliced q))
    quote-units = record {
      ending = eq-eqb close close refl;
      unended = gives-nothing (ends_quoted close) refl;
      one = λ ends b q e feed next h.
          let n = slice_get q 0 in
          let goes = goes-one (b == close || false)
          (are_bytes at_sign at_sign (Some b) n || b == backslash && not (holds at_sign n))
          (sym (is (Some b) n) ∙ e) in
          subst (GivesQuoted ends) (sym (kept-first b q next))
          (one-by ends (b == backslash) b q refl (or_parts (b == close) false goes.0).0 feed
          (or_parts (are_bytes at_sign at_sign (Some b) n) (b == backslash && not (holds at_sign n)) goes.1).1 h);
      signs = λ ends q next h. grind (arith, nat_tests, gives-byte ends at_sign (spliced q) refl no_sign refl h);
      others = λ ends b y q e sign feed next h.
          rw (
            kept-first b (y ∷ q) feed,
            kept-first y q next,
            quote-region.pairs b (Some y) e (rw sign refl),
          )
          (gives-escape ends y (spliced q) feed h);
      broken = λ ends b q e h. grind (arith, nat_tests);
    }

-- header names

abbrev GivesHeader : Bool → List ℕ → Type 0
GivesHeader ends q = Gives ends ends_header_name q

over-header : (b : ℕ) → (b == greater_sign) ≡ false → (b == line_feed) ≡ false → PassesOver ends_header_name b
over-header b closing feed t = grind (arith, nat_tests)

header-byte : (ends : Bool) (b : ℕ) (q : List ℕ) → (b == greater_sign) ≡ false → (b == line_feed) ≡ false
    → GivesHeader ends q → GivesHeader ends (b ∷ q)
header-byte ends b q closing feed = gives-more ends_header_name b refl (over-header b closing feed) ends q

pub header-region : IsQuoteRegion region.HeaderName greater_sign
header-region = search (rules, header_name-cut, nat_tests)

pub header-units : IsByUnits region.HeaderName greater_sign (λ ends q. Gives ends ends_header_name q)
header-units = record {
  ending = refl;
  unended = gives-nothing ends_header_name refl;
  one = λ ends b q e feed next h. search (rules, header-byte);
  signs = λ ends q next. header-byte ends at_sign q refl refl;
  others = λ ends b y q e sign feed next h. grind (arith, nat_tests);
  broken = λ ends b q e h. grind (arith, nat_tests);
}
