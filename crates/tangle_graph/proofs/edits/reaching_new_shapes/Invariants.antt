use Rattle.std.proofs.Common.{◌≡◌, ◌+◌, length, take}
use Rattle.tangle_bodies.specs.Shapes.{Shapes}
use Rattle.tangle_graph.specs.Stores.{AreNewShapes, IsStoreOf, StoreRead}
use Rattle.tangle_graph.specs.AffectedFlags.{AreFlagged}
use Rattle.tangle_graph.proofs.edits.reaching_new_shapes.Given as goal

abbrev pub invariant-loop-node : goal.invariant-loop-node
invariant-loop-node l = record {
  size : length l.flags.items ≡ length l.new.names + 1;
  flagged : (old : StoreRead) (before after : Shapes) → AreNewShapes old l.new l.new_shapes
      → IsStoreOf before old → IsStoreOf after l.new
      → AreFlagged before after l.new l.flags.items (take l.node-index l.order);
}
