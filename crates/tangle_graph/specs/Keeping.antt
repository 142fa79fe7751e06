-- Which expansions of a web's nodes are kept, and which nodes were expanded to make them.
use Rattle.std.specs.Prelude.{◌≡◌, ◌≢◌, ◌↔◌, ◌++◌, true, false, List}
use Rattle.std.specs.Prelude.{Some, None, AllPairs, Contains}
use Rattle.tangle_expansion.specs.Affected.{IsAffected}
use Rattle.tangle_expansion.specs.Expanded.{Expanded, symbols_of, used_titles}
use Rattle.tangle_expansion.specs.Kept.{kept_at, PutsKept}
use Rattle.tangle_expansion.specs.Limits.{levels, heaviest, flat_of, IsExpandableNode}
use Rattle.tangle_bodies.specs.Shapes.{Shapes}
use Rattle.tangle_expansion.specs.declared.kept.Kept.{Kept}
use Rattle.digraph.specs.Nodes.{Node}
use Rattle.tangle_graph.specs.Stores.{StoreRead, IsStoreOf, IsNodeIn, is_expandable_at}
use Rattle.tangle_graph.specs.Stores.{title_in_store}
use Rattle.tangle_graph.specs.Affected.{EditedShapes}

-- the expansion of the node is its right one: it gives the symbols of the node
abbrev pub IsRight : Shapes → StoreRead → Node → Expanded → Type 0
IsRight shapes store node e = symbols_of (used_titles shapes) (title_in_store store node) e
    ≡ flat_of shapes (title_in_store store node)

-- the right expansion of the node is kept
abbrev pub IsKeptRight : Shapes → StoreRead → Kept → Node → Type 0
IsKeptRight shapes store kept node =
    (e : Expanded) × (kept_at kept node ≡ Some e) × IsRight shapes store node e

-- the node gets its right expansion, and the others keep theirs
abbrev pub PutsRight : Shapes → StoreRead → Kept → Kept → Node → Type 0
PutsRight shapes store old new node =
    (e : Expanded) × PutsKept old new node e × IsRight shapes store node e

-- the right expansion of the node is kept if the node is expandable, and else none
pub record IsKept (shapes : Shapes) (store : StoreRead) (kept : Kept) (node : Node) : Type 0 where
  pub expandable : is_expandable_at store node ≡ true → IsKeptRight shapes store kept node
  pub other : is_expandable_at store node ≡ false → kept_at kept node ≡ None

abbrev pub KeepsJust : Shapes → StoreRead → Kept → Type 0
KeepsJust shapes store kept = (node : Node) → IsKept shapes store kept node

-- the stores before and after an edit are those of the old and the new shapes, and the old
-- expansions are kept
pub record IsEditOf (old new : StoreRead) (kept : Kept) (shapes : EditedShapes) : Type 0 where
  pub before : IsStoreOf shapes.old old
  pub after : IsStoreOf shapes.new new
  pub expansions : KeepsJust shapes.old old kept

-- the node is expandable and not affected
abbrev pub IsUnaffected : StoreRead → EditedShapes → Node → Type 0
IsUnaffected new shapes node =
    IsExpandableNode shapes.new (title_in_store new node)
    × (¬ (IsAffected levels heaviest shapes.old shapes.new (title_in_store new node)))

-- the list has each expandable node of the store once, and no other node
pub record ListsExpandable (store : StoreRead) (nodes : List Node) : Type 0 where
  pub once : AllPairs (λ a b. a ≢ b) nodes
  pub just : (node : Node)
      → Contains nodes node ↔ (IsNodeIn store node × (is_expandable_at store node ≡ true))

-- exactly the expandable nodes were added to the end of the list
abbrev pub ListsExpandableAfter : StoreRead → List Node → List Node → Type 0
ListsExpandableAfter store before after =
    (nodes : List Node) × (after ≡ before ++ nodes) × ListsExpandable store nodes
