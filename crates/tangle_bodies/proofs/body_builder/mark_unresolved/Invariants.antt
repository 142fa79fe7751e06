use Rattle.std.proofs.Common.{◌≡◌, ◌++◌, ◌<◌, drop, length, take}
use Rattle.std.specs.List.{All}
use Rattle.tangle_bodies.specs.ItemTags.{resolved_tags}
use Rattle.tangle_bodies.proofs.body_builder.mark_unresolved.Given as goal

abbrev pub invariant-loop-i : goal.invariant-loop-i
invariant-loop-i l = record {
  size : length l.tags.items ≡ length l.fn.tags.items;
  left : All (λ n. n < length l.table.resolved) l.left;
  tags : take l.i l.tags.items ++ resolved_tags l.table (drop l.i l.tags.items) l.left
      ≡ take l.first l.fn.tags.items ++ resolved_tags l.table (drop l.first l.fn.tags.items) l.uses;
}
