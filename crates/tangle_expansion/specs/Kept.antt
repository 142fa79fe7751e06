-- Kept expansions, as a map from nodes.
use Rattle.std.specs.Prelude.{◌≡◌, ◌≢◌, List, map, Option, Some, None}
use Rattle.std.specs.Prelude.{slice_index_or}
use Rattle.digraph.specs.Nodes.{Node}
use Rattle.tangle_expansion.specs.Expanded.{Expanded}
use Rattle.tangle_expansion.specs.declared.kept.Kept.{Kept}

-- the expansion that is kept for the node, if there is one
abbrev pub kept_at : Kept → Node → Option Expanded
kept_at kept node = slice_index_or kept.by_node.items node None

-- the node gets this expansion, and the others keep theirs
pub record PutsKept (old new : Kept) (node : Node) (e : Expanded) : Type 0 where
  pub put : kept_at new node ≡ Some e
  pub others : (other : Node) → other ≢ node → kept_at new other ≡ kept_at old other

abbrev pub SameKept : Kept → Kept → Type 0
SameKept old new = (node : Node) → kept_at new node ≡ kept_at old node

-- what is kept for these nodes
abbrev pub kept_for : Kept → List Node → List (Option Expanded)
kept_for kept nodes = map (kept_at kept) nodes
