use Rattle.std.proofs.Common.{◌≡◌, ◌++◌, filter, take}
use Rattle.tangle_graph.specs.Affected.{EditedShapes}
use Rattle.tangle_graph.specs.AffectedFlags.{is_expandable_and_flagged}
use Rattle.tangle_graph.specs.Keeping.{IsEditOf}
use Rattle.tangle_graph.proofs.KeepLemmas.{AreKept}
use Rattle.tangle_graph.proofs.keeping.expand_again.Given as goal

abbrev pub invariant-loop-node : goal.invariant-loop-node
invariant-loop-node l = record {
  kept : (shapes : EditedShapes) → IsEditOf l.old l.new l.old_kept shapes
      → AreKept shapes.new l.new (take l.node-index l.order) l.kept;
  work : l.work ≡ l.initial.work ++ filter (is_expandable_and_flagged l.new l.flags.items) (take l.node-index l.order);
}
