use Rattle.std.proofs.Common.{◌≡◌, length}
use Rattle.tangle_bodies.specs.NodeBodies.{node_bodies}
use Rattle.tangle_graph.proofs.PushLemmas.{HoldsAtEach, IsBodyMade}
use Rattle.tangle_graph.proofs.bodies.bodies_by_node.Given as goal

abbrev pub invariant-loop-n : goal.invariant-loop-n
invariant-loop-n l = record {
  size : length l.bodies.items ≡ l.n;
  flags_size : length l.new_shapes.items ≡ l.n;
  each : HoldsAtEach (IsBodyMade l.grouped l.old) (node_bodies l.bodies.items) l.new_shapes.items;
}
