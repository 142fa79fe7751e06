-- The points of the bytes of cells and of ranges.
use Rattle.std.proofs.lemmas.Bool.Decides.{nat_tests}
use Rattle.std.proofs.Common.{◌≡◌, ℕ, zero, suc, ◌+◌, ◌-◌, ◌≤◌, Bool, List, [], ◌∷◌, ◌++◌, take}
use Rattle.std.proofs.Common.{refl, ap, arith, append_assoc}
use Rattle.tangle_lexer.specs.declared.tokens.Token.{Token}
use Rattle.tangle_lexer.specs.declared.tokens.Token.TheVariants as token
use Rattle.tangle_text.specs.Text.{Cell}
use Rattle.tangle_faults.specs.declared.faults.FaultKind.{FaultKind}
use Rattle.tangle_lexer.specs.Lexemes.{fault_if}
use Rattle.tangle_lexer.specs.Segments.{columns_from, span_points, byte_points}
use Rattle.tangle_lexer.proofs.laws.Points.{Point, after_cell, HoldsBytes, IsTextAt}

-- the points of a line from column `start` up to column `end`
abbrev pub columns_to : ℕ → ℕ → ℕ → List (ℕ × ℕ)
columns_to line start end = columns_from line start (end - start)

columns-more : (line column n : ℕ)
    → columns_from line column (n + 1) ≡ columns_from line column n ++ (line, column + n) ∷ []
columns-more line column zero = let e : column ≡ column + 0 = omega arith in ap (λ x. (line, x) ∷ []) e
columns-more line column (suc n) = grind (arith, nat_tests, columns-more line (column + 1) n)

-- the points with one more column at the end
pub columns-next : (line start column : ℕ)
    → start ≤ column → columns_to line start (column + 1) ≡ columns_to line start column ++ (line, column) ∷ []
columns-next line start column h = grind (arith, nat_tests, columns-more)

pub columns-nothing : (line column : ℕ) → columns_to line column column ≡ []
columns-nothing line column = let e : column - column ≡ 0 = omega arith in ap (columns_from line column) e

-- the points of the tokens that have a span

abbrev pub token_points : List Token → List (ℕ × ℕ)
token_points [] = []
token_points (token.Span kind s ∷ ts) = span_points s ++ token_points ts
token_points (_ ∷ ts) = token_points ts

pub points-append : (ts us : List Token) → token_points (ts ++ us) ≡ token_points ts ++ token_points us
points-append [] us = refl
points-append (token.Span kind s ∷ ts) us = grind (arith, nat_tests, points-append ts us, append_assoc)
points-append (_ ∷ ts) us = points-append ts us

pub fault-points : (b : Bool) (kind : FaultKind) (line : ℕ) → token_points (fault_if b kind line) ≡ []
fault-points b kind line = grind arith

module _ (texts : List (List ℕ)) where
  -- the points of bytes of one line are its columns from the first byte on
  pub bytes-columns : (at : Point) (n : ℕ) (text : List Cell) → IsTextAt texts at text → HoldsBytes n text
      → byte_points (take n text) ≡ columns_from at.line at.column n
  bytes-columns at zero text is h = refl
  bytes-columns at (suc n) [] is h = absurd h
  bytes-columns at (suc n) (c ∷ cs) is h = grind (arith, bytes-columns (after_cell c) n cs is.1 h.1)
