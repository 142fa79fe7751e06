-- Orders of the nodes of a graph.
use Rattle.std.specs.Prelude.{◌≡◌, ◌≢◌, ◌<◌, ◌↔◌, ℕ, Bool, false, List, length, take, slice_index}
use Rattle.std.specs.Prelude.{slice_index_or, Contains, All, AllPairs}
use Rattle.digraph.specs.Graph.{Graph, HasUse}
use Rattle.digraph.specs.Reach.{ReachesCycle}

-- each node of the list comes once, and after all nodes that it uses
pub record IsAfterUses (graph : Graph) (order : List ℕ) : Type 0 where
  pub nodes : All (λ n. n < length graph) order
  pub once : AllPairs (λ n m. n ≢ m) order
  pub after : (k m : ℕ)
      → k < length order → HasUse graph (slice_index order k) m → Contains (take k order) m

-- each node of the list comes once, and after all nodes that it uses; each node that is not in the
-- list uses one that isn't
pub record IsOrder (graph : Graph) (order : List ℕ) : Type 0 where
  pub after_uses : IsAfterUses graph order
  pub rest : (n : ℕ) → n < length graph → ¬ (Contains order n)
      → (m : ℕ) × HasUse graph n m × (¬ (Contains order m))

-- exactly the nodes that reach a cycle have no flag
abbrev pub AreAcyclic : Graph → List Bool → Type 0
AreAcyclic graph flags = (n : ℕ) → n < length graph
    → ((slice_index_or flags n false ≡ false) ↔ ReachesCycle (HasUse graph) n)
