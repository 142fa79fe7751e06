-- A flag for each node.
use Rattle.std.specs.Prelude.{◌≡◌, ◌<◌, ◌↔◌, ℕ, Bool, true, false, List, length, slice_index_or}
use Rattle.digraph.specs.Graph.{Graph}

abbrev pub IsFlagged : List Bool → ℕ → Type 0
IsFlagged flags n = slice_index_or flags n false ≡ true

-- exactly the nodes with this property are flagged
abbrev pub FlagsJust : Graph → List Bool → (ℕ → Type 0) → Type 0
FlagsJust graph flags HasIt = (n : ℕ) → n < length graph → (IsFlagged flags n ↔ HasIt n)

-- there is a flag for each node, and only nodes with this property are flagged
pub record FlagsOnly (graph : Graph) (flags : List Bool) (HasIt : ℕ → Type 0) : Type 0 where
  pub size : length flags ≡ length graph
  pub sound : (n : ℕ) → IsFlagged flags n → HasIt n
