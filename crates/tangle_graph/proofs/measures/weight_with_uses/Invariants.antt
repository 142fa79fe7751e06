use Rattle.std.proofs.Common.{◌≡◌, ◌+◌, min, take}
use Rattle.std.specs.Prelude.{sum_by}
use Rattle.tangle_expansion.specs.Limits.{weight_cap}
use Rattle.tangle_graph.specs.Measures.{measure_at}
use Rattle.tangle_graph.proofs.measures.weight_with_uses.Given as goal

abbrev pub invariant-loop-node : goal.invariant-loop-node
invariant-loop-node l = l.weight
    ≡ min weight_cap (l.own + sum_by (λ node. (measure_at l.measures node).weight) (take l.node-index l.uses))
