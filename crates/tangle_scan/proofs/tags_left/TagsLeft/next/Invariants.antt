use Rattle.std.proofs.Common.{◌≡◌, ◌≤◌, length}
use Rattle.tangle_scan.specs.UnfoldedTags.{tags_left}
use Rattle.tangle_scan.proofs.tags_left.TagsLeft.next.Given as goal

abbrev pub invariant-loop-self : goal.invariant-loop-self
invariant-loop-self l = record {
  within : l.self-inside.run ≤ length l.self-inside.bytes.now;
  same : tags_left l.self-inside.tags.now l.self-inside.bytes.now l.self-inside.run ≡ l.fn.self;
}

abbrev pub decreases-loop-self : goal.decreases-loop-self
decreases-loop-self l = length l.self-inside.tags.now
