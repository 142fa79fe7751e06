use Rattle.std.proofs.Common.{◌≡◌, filter, take}
use Rattle.tangle_graph.specs.AffectedFlags.{is_expandable_and_flagged}
use Rattle.tangle_graph.proofs.edits.listed_nodes.Given as goal

abbrev pub invariant-loop-node : goal.invariant-loop-node
invariant-loop-node l = l.nodes.items ≡ filter (is_expandable_and_flagged l.store l.flags) (take l.node-index l.order)
