-- An order while it is made, with a flag for each node that is in it.
use Rattle.std.specs.Prelude.{◌≡◌, ◌⊎◌, ◌↔◌, ℕ, Bool, not, List, length, count_by, Contains}
use Rattle.digraph.specs.Graph.{Graph, HasUse}
use Rattle.digraph.specs.Flags.{IsFlagged}
use Rattle.digraph.specs.Order.{IsAfterUses}

pub record IsOrderSoFar (graph : Graph) (flags : List Bool) (order : List ℕ) : Type 0 where
  pub size : length flags ≡ length graph
  pub flagged : (n : ℕ) → IsFlagged flags n ↔ Contains order n
  pub after_uses : IsAfterUses graph order

-- the node is in the order, or uses one that isn't
abbrev pub IsStuck : Graph → List ℕ → ℕ → Type 0
IsStuck graph order n = Contains order n ⊎ ((m : ℕ) × HasUse graph n m × (¬ (Contains order m)))

-- the number of nodes without a flag
abbrev pub unflagged : List Bool → ℕ
unflagged flags = count_by not flags
