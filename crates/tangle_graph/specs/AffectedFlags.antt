-- What flags of a store's nodes mean. Only private contracts cite these definitions.
use Rattle.std.specs.Prelude.{◌≡◌, ◌≢◌, ◌↔◌, ◌&&◌, Bool, true, List, Contains}
use Rattle.std.specs.List.{list_any}
use Rattle.tangle_bodies.specs.Shapes.{Title, Shapes, Uses}
use Rattle.digraph.specs.Nodes.{Node}
use Rattle.digraph.specs.Reach.{Reaches}
use Rattle.tangle_graph.specs.Stores.{StoreRead, flag_at, is_expandable_at, uses_at}
use Rattle.tangle_graph.specs.Stores.{title_in_store}

-- the node with this title reaches one whose shape differs from its old shape
abbrev pub ReachesNewShape : Shapes → Shapes → Title → Type 0
ReachesNewShape old new title = (cause : Title) × Reaches (Uses new) title cause × (new cause ≢ old cause)

-- exactly those of these nodes are flagged that reach one with a new shape
abbrev pub AreFlagged : Shapes → Shapes → StoreRead → List Bool → List Node → Type 0
AreFlagged old new store flags nodes =
    (node : Node) → Contains nodes node
    → ((flag_at flags node ≡ true) ↔ ReachesNewShape old new (title_in_store store node))

-- the node is expandable, and flagged
abbrev pub is_expandable_and_flagged : StoreRead → List Bool → Node → Bool
is_expandable_and_flagged store flags node = is_expandable_at store node && flag_at flags node

-- whether the node uses a flagged one
abbrev pub uses_flagged : StoreRead → List Bool → Node → Bool
uses_flagged store flags node = list_any (flag_at flags) (uses_at store node)
