use Rattle.std.proofs.Common.{◌≡◌, take}
use Rattle.tangle_scan.proofs.tags.equal_tags.Given as goal

abbrev pub invariant-loop-i : goal.invariant-loop-i
invariant-loop-i l = take l.i l.tags ≡ take l.i l.others
