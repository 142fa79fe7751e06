use Rattle.std.proofs.Common.{◌≡◌, ◌<◌, List, ℕ, length, take}
use Rattle.std.specs.Prelude.{Contains}
use Rattle.tangle_bodies.specs.Nodes.{title_at}
use Rattle.tangle_bodies.specs.Shapes.{Shapes}
use Rattle.tangle_bodies.specs.NodeBodies.{AreBodiesOf, node_bodies}
use Rattle.tangle_graph.specs.Measures.{measure_at, measure_of}
use Rattle.tangle_graph.proofs.measures.measures_of_nodes.Given as goal

abbrev pub invariant-loop-node : goal.invariant-loop-node
invariant-loop-node l = record {
  size : length l.measures.items ≡ length l.uses;
  measured : (shapes : Shapes) (names : List (List ℕ)) → AreBodiesOf shapes names (node_bodies l.bodies)
      → (n : ℕ) → n < length l.uses → (Contains l.order n → Contains (take l.node-index l.order) n)
      → measure_at l.measures.items n ≡ measure_of shapes (title_at names n);
}
