use Rattle.std.proofs.Common.{◌≡◌, ◌+◌, ◌*◌, ◌≤◌, drop}
use Rattle.tangle_bodies.specs.Flat.{own_counts}
use Rattle.tangle_bodies.proofs.nodes.NodeBody.symbol_count.Given as goal

abbrev pub invariant-loop-tag : goal.invariant-loop-tag
invariant-loop-tag l = record {
  counted : l.count + own_counts (drop l.tag-index l.items.tags.items) ≡ own_counts l.items.tags.items;
  small : l.count ≤ 2 * l.tag-index;
}
