-- Nodes by number and by title.
use Rattle.std.specs.Prelude.{◌≡◌, ◌<◌, ℕ, length}
use Rattle.digraph.specs.Graph.{Graph, HasUse}

-- each number has a title of its own, and the uses of a title are those of its number
pub record IsTitled {X : Type 0} (graph : Graph)
    (Uses : X → X → Type 0) (title : ℕ → X) : Type 0 where
  pub once : (n m : ℕ) → n < length graph → m < length graph → title n ≡ title m → n ≡ m
  pub sound : (n m : ℕ) → HasUse graph n m → Uses (title n) (title m)
  pub complete : (n : ℕ) (used : X) → n < length graph → Uses (title n) used
      → (m : ℕ) × HasUse graph n m × (m < length graph) × (title m ≡ used)
