use Rattle.std.proofs.Common.{◌≡◌, length}
use Rattle.tangle_scan.proofs.tags.same_tags_left.Given as goal

abbrev pub invariant-loop-tag : goal.invariant-loop-tag
invariant-loop-tag l =
    (l.fn.left ≡ l.fn.other → l.left ≡ l.other)
    × (l.left ≡ l.other → l.fn.left ≡ l.fn.other)

abbrev pub decreases-loop-tag : goal.decreases-loop-tag
decreases-loop-tag l = length l.left
