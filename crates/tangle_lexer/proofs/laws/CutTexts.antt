-- Quoted and verbatim texts, which are cut: what is true unit by unit is true of such a text.
use Rattle.std.proofs.Common.{rules}
use Rattle.std.proofs.lemmas.Bool.Decides.{nat_tests}
use Rattle.std.proofs.Common.{◌≡◌, ℕ, suc, ◌+◌, ◌≤◌, true, false, List, [], ◌∷◌, ◌++◌, Option, None}
use Rattle.std.proofs.Common.{arith, append_assoc}
use Rattle.tangle_faults.specs.declared.faults.FaultKind.TheVariants as fault
use Rattle.tangle_lexer.specs.declared.tokens.Token.{Token}
use Rattle.tangle_lexer.specs.declared.tokens.Token.TheVariants as token
use Rattle.tangle_text.specs.declared.regions.Region.{Region}
use Rattle.tangle_text.specs.declared.regions.Region.TheVariants as region
use Rattle.tangle_text.specs.declared.regions.Unit.TheVariants as unit
use Rattle.tangle_lines.specs.Bytes.{at_sign}
use Rattle.tangle_text.specs.Bytes.{backslash, holds}
use Rattle.tangle_text.specs.Text.{Cell, byte_at}
use Rattle.tangle_text.specs.Regions.{unit_of, count_before}
use Rattle.tangle_lexer.specs.Lexemes.{fault_if}
use Rattle.tangle_lexer.specs.Quoted.{cut_range, cut_tokens}
use Rattle.tangle_lexer.proofs.lemmas.CutLemmas.{cut-stop}
use Rattle.tangle_lexer.proofs.laws.Points.{Point, point_at, IsByte, IsCellAt, IsTextAt}
use Rattle.tangle_lexer.proofs.laws.RegionUnits.{units-by}

-- the regions of texts that are cut
pub record IsCut (r : Region) : Type 0 where
  -- they end at a line end
  pub stops : (n : Option ℕ) → unit_of r None n ≡ unit.Stop
  -- no @ follows an @ that is a unit of one cell
  pub leaves : (b n : Option ℕ) → unit_of r b n ≡ unit.One → holds at_sign b ≡ true → holds at_sign n ≡ false
  -- both cells of a unit of two are @, or neither is
  pub pairs : (b n : Option ℕ) → unit_of r b n ≡ unit.Two → holds at_sign b ≡ holds at_sign n
  -- only a backslash is in one unit with a line end
  pub takes : (b : Option ℕ) → unit_of r b None ≡ unit.Two → holds backslash b ≡ true

pub double_quote-cut : IsCut region.DoubleQuote
double_quote-cut = grind (arith, nat_tests)

pub apostrophe-cut : IsCut region.Apostrophe
apostrophe-cut = grind (arith, nat_tests)

pub header_name-cut : IsCut region.HeaderName
header_name-cut = grind (arith, nat_tests)

pub verbatim-cut : IsCut region.Verbatim
verbatim-cut = grind (arith, nat_tests)

-- `P at start ts n text` is a fact about a text from a point on, whose first `n` cells are the region: the current range
-- starts at column `start`, and `ts` are the tokens of the text. The cases are the end of the region, one byte, @@, two
-- other bytes, and a backslash with a line end.
module _ (texts : List (List ℕ)) (r : Region) (cut : IsCut r) (ends : ℕ → List Cell → List Token)
    (P : Point → ℕ → List Token → ℕ → List Cell → Type 0)
    (stop : (at : Point) (start : ℕ) (text : List Cell)
    → start ≤ at.column → IsTextAt texts at text → P at start (ends start text) 0 text)
    (one : (at : Point) (start : ℕ) (c : Cell) (cs : List Cell) (ts : List Token) (n : ℕ)
    → start ≤ at.column → IsCellAt texts at c → IsByte c.byte
    → (holds at_sign c.byte ≡ true → holds at_sign (byte_at 0 cs) ≡ false)
    → P (point_at c.line (c.column + 1)) start ts n cs
    → P at start (fault_if (holds at_sign c.byte) fault.StringAt c.line ++ ts) (suc n) (c ∷ cs))
    (signs : (at : Point) (start : ℕ) (c d : Cell) (cs : List Cell) (ts : List Token) (n : ℕ)
    → start ≤ at.column → IsCellAt texts at c → IsCellAt texts (point_at c.line (c.column + 1)) d
    → IsByte c.byte → IsByte d.byte → holds at_sign c.byte ≡ true → holds at_sign d.byte ≡ true
    → P (point_at d.line (d.column + 1)) (c.column + 2) ts n cs
    → P at start (cut_range r c.line start (c.column + 1) ++ ts) (suc (suc n)) (c ∷ d ∷ cs))
    (others : (at : Point) (start : ℕ) (c d : Cell) (cs : List Cell) (ts : List Token) (n : ℕ)
    → start ≤ at.column → IsCellAt texts at c → IsCellAt texts (point_at c.line (c.column + 1)) d
    → IsByte c.byte → IsByte d.byte → holds at_sign c.byte ≡ false → holds at_sign d.byte ≡ false
    → P (point_at d.line (d.column + 1)) start ts n cs → P at start ts (suc (suc n)) (c ∷ d ∷ cs))
    (broken : (at : Point) (start : ℕ) (c d : Cell) (cs : List Cell) (ts : List Token) (n : ℕ)
    → start ≤ at.column → IsCellAt texts at c → IsCellAt texts (point_at c.line (c.column + 1)) d
    → IsByte c.byte → d.byte ≡ None → holds at_sign c.byte ≡ false
    → P (point_at (d.line + 1) 0) 0 ts n cs
    → P at start (cut_range r c.line start (c.column + 1) ++ token.QuoteBreak c.line ∷ ts) (suc (suc n)) (c ∷ d ∷ cs)) where
  abbrev Holds : ℕ → List Cell → Type 0
  Holds n text =
      (at : Point) (start : ℕ) → start ≤ at.column → IsTextAt texts at text
      → P at start (cut_tokens ends r 0 start text) n text

  cut-holds : (text : List Cell) → Holds (count_before r text) text
  cut-holds =
      units-by r Holds (search (rules, cut-stop)) (λ at start h is. stop at start [] h is) (search rules)
      (search (rules, append_assoc)) (search rules)

  -- the text from the start of a range on, to the end of the region
  pub cut-by : (at : Point) (start : ℕ) (text : List Cell) → start ≤ at.column → IsTextAt texts at text
      → P at start (cut_tokens ends r 0 start text) (count_before r text) text
  cut-by at start text h is = cut-holds text at start h is
