-- Cells that are bytes, and the order of the line ends in a region. `texts` are the bytes of the source lines.
use Rattle.std.proofs.lemmas.Bool.Decides.{nat_tests}
use Rattle.std.proofs.Common.{◌≡◌, ℕ, zero, suc, ◌+◌, Bool, true, false, List, [], ◌∷◌, drop, Option, None}
use Rattle.std.proofs.Common.{◌++◌, arith, zero-add, ◌==◌}
use Rattle.tangle_text.specs.declared.regions.Region.{Region}
use Rattle.tangle_text.specs.declared.regions.Region.TheVariants as region
use Rattle.tangle_text.specs.declared.regions.Unit.TheVariants as unit
use Rattle.tangle_text.specs.Bytes.{holds, are_bytes, is_line_end}
use Rattle.tangle_text.specs.Text.{Cell, byte_at}
use Rattle.tangle_text.specs.Regions.{unit_of, count_before}
use Rattle.tangle_lexer.proofs.lemmas.RegionSteps.{line_ends-stop, line_ends-go}
use Rattle.tangle_lexer.specs.declared.lexeme_kinds.ControlCode.{ControlCode}
use Rattle.tangle_lexer.specs.declared.lexeme_kinds.ControlCode.TheVariants as code
use Rattle.tangle_lexer.specs.Segments.{OpensWith}
use Rattle.tangle_lexer.specs.Lexemes.{line_end_by}
use Rattle.tangle_lexer.specs.declared.tokens.Token.{Token}
use Rattle.tangle_lexer.specs.Comments.{line_ends, two_if}
use Rattle.tangle_lexer.proofs.laws.Points.{Point, IsByte, HoldsBytes, after_by, after-byte}
use Rattle.tangle_lexer.proofs.laws.Points.{after_cell, IsTextAt, text-after}
use Rattle.tangle_lexer.proofs.laws.TokenOrder.{IsAtLine, AreInOrder}
use Rattle.tangle_lexer.proofs.laws.RegionUnits.{units-by}

-- cells that are bytes

-- a byte that equals one byte does not equal another
pub other-byte : (x y : ℕ) (b : Option ℕ) → (x == y) ≡ false → holds x b ≡ true → holds y b ≡ false
other-byte x y b other h = grind arith

pub some-byte : (b : Option ℕ) → is_line_end b ≡ false → IsByte b
some-byte b h = grind arith

-- cells that equal two expected bytes are bytes
pub are_bytes-hold : (first second : ℕ) (text : List Cell)
    → are_bytes first second (byte_at 0 text) (byte_at 1 text) ≡ true → HoldsBytes 2 text
are_bytes-hold first second text h = grind arith

-- the two bytes of a control code that begins no section
pub code-bytes : (kind : ControlCode) (text : List Cell)
    → (kind ≡ code.SectionStart → ⊥) → OpensWith kind text → HoldsBytes 2 text
code-bytes kind text other o = grind (arith, nat_tests)

pub more-bytes : (m n : ℕ) (text : List Cell) → HoldsBytes m text → HoldsBytes n (drop m text) → HoldsBytes (m + n) text
more-bytes zero n text h k = rw (zero-add n) k
more-bytes (suc m) n [] h k = absurd h
more-bytes (suc m) n (c ∷ cs) h k =
    let e : suc m + n ≡ suc (m + n) = omega arith in rw e (h.0, more-bytes m n cs h.1 k)

-- regions that are on one line
abbrev pub is_on_one_line : Region → Bool
is_on_one_line region.LineComment = true
is_on_one_line region.Word = true
is_on_one_line region.White = true
is_on_one_line region.Number = true
is_on_one_line region.BadConstant = true
is_on_one_line _ = false

unit-bytes : (r : Region) (b next : Option ℕ) → is_on_one_line r ≡ true → (unit_of r b next ≡ unit.Stop → ⊥)
    → IsByte b × (unit_of r b next ≡ unit.Two → IsByte next)
unit-bytes x b next is go = grind arith

pub region-bytes : (r : Region) → is_on_one_line r ≡ true → (text : List Cell) → HoldsBytes (count_before r text) text
region-bytes r is = grind (arith, nat_tests, units-by r HoldsBytes, unit-bytes r)

module _ (texts : List (List ℕ)) where
  -- the text after the bytes of a lexeme is on their line
  pub lexeme-line : (at : Point) (more : ℕ) (c : Cell) (cs : List Cell)
      → IsTextAt texts at (c ∷ cs) → HoldsBytes (1 + more) (c ∷ cs) → IsAtLine at.line (drop more cs)
  lexeme-line at more c cs is h = grind (arith, nat_tests, text-after)

  -- and so is the text after the two bytes that end a region, if they are there
  pub end-line : (b : Bool) (at : Point) (text : List Cell) (line : ℕ) → IsTextAt texts at text
      → (b ≡ true → HoldsBytes 2 text) → IsAtLine line text → IsAtLine line (drop (two_if b) text)
  end-line x at text line is h here = grind arith

  -- a cell that is a line end leads to the next line
  cell-in_order : (P : ℕ → Point → Type 0) (at p : Point) (c : Cell) (b : Option ℕ) (ts : List Token)
      → c.line ≡ at.line → AreInOrder texts P (after_by b c).line p ts
      → AreInOrder texts P at.line p (line_end_by b c.line ++ ts)
  cell-in_order P at p c x ts line h = grind arith

  -- The line ends of a region are in order, if none is the second cell of a unit.
  pub line_ends-in_order : (r : Region) → ((b n : Option ℕ) → unit_of r b n ≡ unit.Two → IsByte n)
      → (p : Point) (R : Point → Type 0) → R p → (text : List Cell) (at : Point) → IsTextAt texts at text
      → AreInOrder texts (λ l q. IsAtLine l (drop (count_before r text) text) × R q) at.line p (line_ends r text)
  line_ends-in_order r stays p R reached =
      units-by r Ordered (λ text e at is. rw (line_ends-stop r text e) (grind arith)) (λ at is. (tt, reached))
      (λ n c cs e next at is. rw (line_ends-go r 0 (c ∷ cs) unit.One (omega arith) e (λ q. cc))
      (cell-in_order _ at p c c.byte _ is.0.line (next (after_cell c) is.1)))
      (λ n c d cs e next at is. rw (line_ends-go r 0 (c ∷ d ∷ cs) unit.Two (omega arith) e (λ q. cc))
      (cell-in_order _ at p c c.byte _ is.0.line (rw (← is.1.0.line)
      (rw (after-byte d (stays c.byte d.byte e)) at (next (after_cell d) is.1.1)))))
      (λ c e. absurd (stays c.byte None e))
    where
      Ordered : ℕ → List Cell → Type 0
      Ordered n text =
          (at : Point) → IsTextAt texts at text
          → AreInOrder texts (λ l q. IsAtLine l (drop n text) × R q) at.line p (line_ends r text)
