use Rattle.std.proofs.Common.{◌≡◌, ◌≤◌, length, max}
use Rattle.tangle_expansion.specs.Kept.{SameKept}
use Rattle.tangle_expansion.proofs.kept.Kept.make_entry.Given as goal

abbrev pub invariant-loop-entry : goal.invariant-loop-entry
invariant-loop-entry l = record {
  kept : SameKept l.fn.self l.self;
  count : length l.self.by_node.items ≡ l._entry;
  most : l._entry ≤ max (length l.fn.self.by_node.items) l.size;
}
