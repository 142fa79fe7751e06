-- What is true unit by unit is true of a region.
use Rattle.std.proofs.Math.Numerals.{one-add}
use Rattle.std.proofs.Common.{rules}
use Rattle.std.proofs.Common.{◌≡◌, ℕ, suc, List, [], ◌∷◌, refl, sym, subst}
use Rattle.tangle_text.specs.declared.regions.Region.{Region}
use Rattle.tangle_text.specs.declared.regions.Unit.{Unit as Unit-of}
use Rattle.tangle_text.specs.declared.regions.Unit.TheVariants as unit
use Rattle.tangle_text.specs.Text.{Cell}
use Rattle.tangle_text.specs.Regions.{unit_at, more_by, count_before}
use Rattle.tangle_text.proofs.UnitLemmas.{count_by, counted, count-is}

-- `P n text` is a fact about a text whose first `n` cells are the region. The last case is a unit of two cells of which
-- the text has only one.
module _ (r : Region) (P : ℕ → List Cell → Type 0)
    (stop : (text : List Cell) → unit_at r text ≡ unit.Stop → P 0 text) (nothing : P 0 [])
    (one : (n : ℕ) (c : Cell) (cs : List Cell) → unit_at r (c ∷ cs) ≡ unit.One → P n cs → P (suc n) (c ∷ cs))
    (two : (n : ℕ) (c d : Cell) (cs : List Cell)
    → unit_at r (c ∷ d ∷ cs) ≡ unit.Two → P n cs → P (suc (suc n)) (c ∷ d ∷ cs))
    (last : (c : Cell) → unit_at r (c ∷ []) ≡ unit.Two → P 1 (c ∷ [])) where
  counted-by : (text : List Cell) → P (counted r 0 text) text
  counted-by [] = nothing
  counted-by (c ∷ []) = search rules
  counted-by (c ∷ d ∷ cs) = by (unit_at r (c ∷ d ∷ cs)) refl (counted-by (d ∷ cs)) (counted-by cs)
    where
      by : (u : Unit-of) → unit_at r (c ∷ d ∷ cs) ≡ u → P (counted r 0 (d ∷ cs)) (d ∷ cs) → P (counted r 0 cs) cs
          → P (count_by u (counted r (more_by u) (d ∷ cs))) (c ∷ d ∷ cs)
      by unit.Stop e after further = search rules
      by unit.One e after further = rw (one-add (counted r 0 (d ∷ cs))) (one _ c (d ∷ cs) e after)
      by unit.Two e after further =
          let n : ℕ = counted r 0 cs in rw (one-add n, one-add (suc n)) (two n c d cs e further)

  pub units-by : (text : List Cell) → P (count_before r text) text
  units-by text = subst (λ n. P n text) (sym (count-is r text)) (counted-by text)
