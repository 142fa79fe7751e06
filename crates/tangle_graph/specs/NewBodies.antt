-- The web from which bodies are made, and which bodies have new shapes.
use Rattle.std.specs.Prelude.{◌≡◌, ◌≢◌, ◌+◌, ◌↔◌, ℕ, Bool, true, false, List, length}
use Rattle.std.specs.Prelude.{slice_get, slice_index_or, Some}
use Rattle.digraph.specs.Nodes.{Node}
use Rattle.digraph.specs.Rows.{IsRowsOf}
use Rattle.tangle_names.specs.NameTable.{table_of}
use Rattle.tangle_bodies.specs.NodeBodies.{HoldsShape}
use Rattle.tangle_bodies.specs.Nodes.{title_at}
use Rattle.tangle_bodies.specs.Shapes.{Shape, Shapes}
use Rattle.tangle_bodies.specs.declared.nodes.NodeBody.{NodeBody}
use Rattle.tangle_graph.specs.Grouping.{positions_of}
use Rattle.tangle_graph.specs.Stores.{StoreRead, IsStoreOf}
use Rattle.tangle_graph.specs.declared.bodies.GroupedWeb.{GroupedWeb}

-- the web has this table and these names, and the rows have the pieces of its nodes
pub record IsGrouped (grouped : GroupedWeb) : Type 0 where
  pub table : grouped.table.now ≡ table_of grouped.web.now
  pub names : grouped.names.now ≡ grouped.table.now.names
  pub pieces : IsRowsOf (length grouped.table.now.names + 1)
      (positions_of grouped.table.now grouped.web.now.pieces (length grouped.web.now.pieces))
      grouped.pieces.now

-- the node, which has this body now, is flagged exactly if its shape is not that of the old node
-- with its title
abbrev pub IsNewBody : StoreRead → List (List ℕ) → Node → Bool → NodeBody → Type 0
IsNewBody old names node flag body =
    (before : Shapes) (shape : Shape) → IsStoreOf before old → HoldsShape names shape body
    → ((flag ≡ true) ↔ (shape ≢ before (title_at names node)))

-- exactly those nodes are flagged whose shapes are new
abbrev pub AreNewBodies : StoreRead → List (List ℕ) → List NodeBody → List Bool → Type 0
AreNewBodies old names bodies flags =
    (node : Node) (body : NodeBody) → slice_get bodies node ≡ Some body
    → IsNewBody old names node (slice_index_or flags node false) body
