use Rattle.std.proofs.Common.{◌≡◌, drop}
use Rattle.tangle_text.proofs.reader.Reader.skip.Given as goal

abbrev pub invariant-loop-left : goal.invariant-loop-left
invariant-loop-left l = drop l.left l.self ≡ drop l.count l.fn.self

abbrev pub decreases-loop-left : goal.decreases-loop-left
decreases-loop-left l = l.left
