-- Rows of entries.
use Rattle.std.specs.Prelude.{◌≡◌, ◌<◌, ◌≤◌, ◌↔◌, ◌++◌, ◌-◌, ℕ, List, [], ◌∷◌, length, take, drop}
use Rattle.std.specs.Prelude.{Contains}
use Rattle.std.specs.List.Sorted.{IsStrictlyIncreasing}
use Rattle.digraph.specs.Graph.{Graph, HasUse, row_at}

-- the rows of a list that end at these positions, where the first one begins at `start`
abbrev pub rows_between : {X : Type 0} → List X → ℕ → List ℕ → List (List X)
rows_between entries start [] = []
rows_between entries start (end ∷ ends) =
    take (end - start) (drop start entries) ∷ rows_between entries end ends

-- no row ends before it begins, and the last one ends at the end of the list, which has this size
abbrev pub AreEnds : ℕ → ℕ → List ℕ → Type 0
AreEnds size start [] = start ≡ size
AreEnds size start (end ∷ ends) = (start ≤ end) × AreEnds size end ends

-- there are `count` rows, and each row `n` is `f n`
pub record IsRowsOf {X : Type 0} (count : ℕ) (f : ℕ → List X) (rows : List (List X)) : Type 0 where
  pub size : length rows ≡ count
  pub row : (n : ℕ) → n < count → row_at rows n ≡ f n

-- each row `n` has grown by `f n` at its end
pub record GrowsBy {X : Type 0} (f : ℕ → List X) (old new : List (List X)) : Type 0 where
  pub size : length new ≡ length old
  pub row : (n : ℕ) → n < length old → row_at new n ≡ row_at old n ++ f n

-- `once` has the numbers that `all` has, each once, in increasing order
pub record IsOnceEach (all once : List ℕ) : Type 0 where
  pub increasing : IsStrictlyIncreasing once
  pub same : (m : ℕ) → Contains once m ↔ Contains all m

-- the row of each node has the nodes that use it, each once, in increasing order
pub record IsReversed (uses users : Graph) : Type 0 where
  pub size : length users ≡ length uses
  pub increasing : (m : ℕ) → IsStrictlyIncreasing (row_at users m)
  pub reversed : (n m : ℕ) → HasUse users m n ↔ HasUse uses n m
