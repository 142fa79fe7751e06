-- The nodes that an edit affects, as a list.
use Rattle.std.specs.Prelude.{◌≡◌, ◌≢◌, ◌↔◌, ◌<◌, ◌++◌, ℕ, List, length, take, slice_index_or, AllPairs}
use Rattle.std.specs.Prelude.{Contains}
use Rattle.tangle_expansion.specs.Affected.{IsAffected}
use Rattle.tangle_expansion.specs.Limits.{levels, heaviest}
use Rattle.tangle_bodies.specs.Shapes.{Shapes, Uses}
use Rattle.digraph.specs.Nodes.{Node, program}
use Rattle.tangle_graph.specs.Stores.{StoreRead, IsNodeIn, title_in_store}

-- the shapes before an edit and after it
pub record EditedShapes : Type 0 where
  pub old : Shapes
  pub new : Shapes

-- Exactly the affected nodes of the new store: each once, and after those listed nodes that it uses.
-- Whether a node is affected is said of its title, since a title means the same in both shapes.
pub record ListsAffected (old new : Shapes) (store : StoreRead) (nodes : List Node) : Type 0 where
  pub once : AllPairs (λ a b. a ≢ b) nodes
  pub just : (node : Node) → Contains nodes node
      ↔ (IsNodeIn store node × IsAffected levels heaviest old new (title_in_store store node))
  pub after : (k : ℕ) (used : Node) → k < length nodes → Contains nodes used
      → Uses new (title_in_store store (slice_index_or nodes k program))
      (title_in_store store used)
      → Contains (take k nodes) used

-- exactly the affected nodes were added to the end of the list
abbrev pub ListsAffectedAfter : Shapes → Shapes → StoreRead → List Node → List Node → Type 0
ListsAffectedAfter old new store before after =
    (nodes : List Node) × (after ≡ before ++ nodes) × ListsAffected old new store nodes
