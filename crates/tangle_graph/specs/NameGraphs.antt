-- When a graph of names belongs to nodes with these uses.
use Rattle.std.specs.Prelude.{◌≡◌, ◌<◌, List, length}
use Rattle.digraph.specs.Flags.{FlagsJust}
use Rattle.digraph.specs.Graph.{Graph, HasUse, InRange, row_at}
use Rattle.digraph.specs.Nodes.{Node}
use Rattle.digraph.specs.Order.{IsOrder}
use Rattle.digraph.specs.Reach.{ContainsItself}
use Rattle.digraph.specs.Rows.{IsReversed, IsOnceEach}
use Rattle.tangle_graph.specs.declared.name_graph.NameGraph.{NameGraph}
use Rattle.digraph.specs.Order.{AreAcyclic}

-- the rows of nodes have what each of them uses, each once
pub record AreUsesOf (used : List (List Node)) (rows : Graph) : Type 0 where
  pub size : length rows ≡ length used
  pub once : (n : Node) → n < length used → IsOnceEach (row_at used n) (row_at rows n)

-- for each node a row of the nodes that it uses, each once; and for each node the facts that follow
-- from these rows as a graph
pub record IsNameGraphOf (used : List (List Node)) (name_graph : NameGraph) : Type 0 where
  pub uses : AreUsesOf used name_graph.uses
  pub range : InRange name_graph.uses
  pub users : IsReversed name_graph.uses name_graph.users
  pub order : IsOrder name_graph.uses name_graph.order.nodes.items
  pub containing : FlagsJust name_graph.uses name_graph.self_containing.items
      (ContainsItself (HasUse name_graph.uses))
  pub acyclic : AreAcyclic name_graph.uses name_graph.order.acyclic.items
