use Rattle.std.proofs.Common.{◌≡◌, take}
use Rattle.tangle_graph.specs.Measures.{greatest_by, measure_at}
use Rattle.tangle_graph.proofs.measures.greatest_depth.Given as goal

abbrev pub invariant-loop-node : goal.invariant-loop-node
invariant-loop-node l =
    l.greatest ≡ greatest_by (λ node. (measure_at l.measures node).depth) (take l.node-index l.uses)
