-- Rows in one list, and rows that grow.
use Rattle.std.proofs.Common.{rules}
use Rattle.std.proofs.Common.{◌≡◌, ◌≤◌, ◌<◌, ◌+◌, ◌-◌, ℕ, zero, suc, List, [], ◌∷◌, ◌++◌}
use Rattle.std.proofs.Common.{length, get_or, take, drop, refl, ap, arith, append_assoc}
use Rattle.std.proofs.Common.{length-drop}
use Rattle.std.proofs.lemmas.List.{drop_at, take_all, drop-append-le, take-append-le}
use Rattle.digraph.specs.Graph.{row_at}
use Rattle.digraph.specs.Rows.{rows_between, AreEnds, IsRowsOf, GrowsBy}

pub length-rows_between : {X : Type 0} (entries : List X) (start : ℕ) (ends : List ℕ)
    → length (rows_between entries start ends) ≡ length ends
length-rows_between entries start [] = refl
length-rows_between entries start (end ∷ ends) = ap suc (length-rows_between entries end ends)

start_in : (size start : ℕ) (ends : List ℕ) → AreEnds size start ends → start ≤ size
start_in size start [] is = omega arith
start_in size start (end ∷ ends) is = omega (arith, start_in size end ends is.1)

-- where row `n` begins and ends
pub row_within : (size start : ℕ) (ends : List ℕ) (n : ℕ) → AreEnds size start ends → n < length ends
    → (get_or (start ∷ ends) n 0 ≤ get_or ends n 0) × (get_or ends n 0 ≤ size)
row_within size start [] n is h = absurd (omega arith)
row_within size start (end ∷ ends) zero is h = (is.0, start_in size end ends is.1)
row_within size start (end ∷ ends) (suc n) is h = row_within size end ends n is.1 (omega arith)

pub row_between : {X : Type 0} (entries : List X) (start : ℕ) (ends : List ℕ) (n : ℕ) → n < length ends
    → row_at (rows_between entries start ends) n
    ≡ take (get_or ends n 0 - get_or (start ∷ ends) n 0) (drop (get_or (start ∷ ends) n 0) entries)
row_between entries start [] n h = absurd (omega arith)
row_between entries start (end ∷ ends) zero h = refl
row_between entries start (end ∷ ends) (suc n) h = row_between entries end ends n (omega arith)

pub ends_push : (size start : ℕ) (ends : List ℕ) (end : ℕ)
    → AreEnds size start ends → size ≤ end → AreEnds end start (ends ++ end ∷ [])
ends_push size start [] end is h = (omega arith, refl)
ends_push size start (first ∷ ends) end is h = (is.0, ends_push size first ends end is.1 h)

-- a row is put at the end
pub rows_push : {X : Type 0} (entries row : List X) (start : ℕ) (ends : List ℕ) (end : ℕ)
    → AreEnds (length entries) start ends → end ≡ length entries + length row
    → rows_between (entries ++ row) start (ends ++ end ∷ []) ≡ rows_between entries start ends ++ row ∷ []
rows_push entries row start [] end is e = search (rules, drop_at, take_all)
rows_push entries row start (first ∷ ends) end is e =
    let low : first ≤ length entries = start_in (length entries) first ends is.1 in
    let begins : start ≤ length entries = omega arith in
    let short : first - start ≤ length (drop start entries) = omega (arith, length-drop start entries) in
    rw (drop-append-le start entries row begins, take-append-le (first - start) (drop start entries) row short)
    (ap (λ rows. take (first - start) (drop start entries) ∷ rows) (rows_push entries row first ends end is.1 e))

pub rows_grow : {X : Type 0} (count : ℕ) (f g h : ℕ → List X) (old new : List (List X))
    → IsRowsOf count f old → GrowsBy g old new → ((n : ℕ) → n < count → h n ≡ f n ++ g n) → IsRowsOf count h new
rows_grow count f g h old new is more sum = search rules

pub grows_more : {X : Type 0} (f g h : ℕ → List X) (old mid new : List (List X))
    → GrowsBy f old mid → GrowsBy g mid new → ((n : ℕ) → h n ≡ f n ++ g n) → GrowsBy h old new
grows_more f g h old mid new first second sum = search (rules, append_assoc)
