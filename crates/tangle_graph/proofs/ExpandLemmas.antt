-- A body whose uses have the symbols that are kept gives the expansion of its node.
use Rattle.std.proofs.Common.{rules}
use Rattle.std.proofs.Common.{◌≡◌, ◌<◌, ◌↔◌, true, List, length, arith}
use Rattle.std.proofs.lemmas.List.{get_or_past}
use Rattle.digraph.specs.Nodes.{Node}
use Rattle.tangle_bodies.specs.Shapes.{Shapes}
use Rattle.tangle_expansion.specs.Limits.{IsExpandableNode}
use Rattle.tangle_graph.specs.Measures.{measure_at}
use Rattle.tangle_graph.specs.Stores.{StoreRead, IsNodeIn, IsStoreOf, is_expandable_at}
use Rattle.tangle_graph.specs.Stores.{title_in_store}
use Rattle.tangle_graph.specs.declared.measures.Measure.{Measure}

-- an expandable node is a node of the store
pub measured_in : (measures : List Measure) (node : Node)
    → (measure_at measures node).is_expandable ≡ true → node < length measures
measured_in measures node e = search (rules, get_or_past)

module _ (shapes : Shapes) (store : StoreRead) (is : IsStoreOf shapes store) (node : Node) where
  pub expandable_in : is_expandable_at store node ≡ true → IsNodeIn store node
  expandable_in e = (let low = measured_in store.measures node e in omega arith)

  -- the flag of a node says whether it is expandable
  pub expandable_at : IsNodeIn store node
      → (is_expandable_at store node ≡ true) ↔ IsExpandableNode shapes (title_in_store store node)
  expandable_at inside = search rules
