-- The store of a web with its table of names.
use Rattle.std.specs.Prelude.{◌≡◌, ◌↔◌, ℕ, true, List}
use Rattle.tangle_scan.specs.Web.{WebRead}
use Rattle.tangle_names.specs.NameTable.{TableRead}
use Rattle.digraph.specs.Nodes.{Node}
use Rattle.digraph.specs.Reach.{ReachesCycle}
use Rattle.tangle_bodies.specs.Nodes.{IsGroupedBy, IsNodeOf, title_at}
use Rattle.tangle_bodies.specs.WebShapes.{shapes}
use Rattle.tangle_bodies.specs.Shapes.{Uses}
use Rattle.tangle_graph.specs.Outputs.{outputs}
use Rattle.tangle_graph.specs.Stores.{StoreRead, IsStoreOf}
use Rattle.tangle_graph.specs.Stores.{reaches_cycle_at}

-- The store is that of the web, for a main file of this name: what it records of each node holds
-- for the node, it has the names of the table and the output files in their order, it says of each
-- node whether it reaches a name that contains itself, and the pieces of each node are those of the
-- web.
pub record IsStoreOfWeb (web : WebRead) (table : TableRead)
    (out : List ℕ) (made : StoreRead) : Type 0 where
  pub store : IsStoreOf (shapes web table) made
  pub names : made.names ≡ table.names
  pub reaching_cycles : (n : Node) → IsNodeOf table.names n
      → (reaches_cycle_at made n ≡ true)
      ↔ ReachesCycle (Uses (shapes web table)) (title_at table.names n)
  pub outputs : made.outputs ≡ outputs web table out
  pub grouped : IsGroupedBy web table made.pieces
