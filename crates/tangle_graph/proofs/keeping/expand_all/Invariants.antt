use Rattle.std.proofs.Common.{◌≡◌, ◌++◌, filter, take}
use Rattle.tangle_bodies.specs.Shapes.{Shapes}
use Rattle.tangle_graph.specs.Stores.{IsStoreOf, is_expandable_at}
use Rattle.tangle_graph.proofs.KeepLemmas.{AreKept}
use Rattle.tangle_graph.proofs.keeping.expand_all.Given as goal

abbrev pub invariant-loop-node : goal.invariant-loop-node
invariant-loop-node l = record {
  kept : (shapes : Shapes) → IsStoreOf shapes l.store
      → AreKept shapes l.store (take l.node-index l.order) l.kept;
  work : l.work ≡ l.initial.work ++ filter (is_expandable_at l.store) (take l.node-index l.order);
}
