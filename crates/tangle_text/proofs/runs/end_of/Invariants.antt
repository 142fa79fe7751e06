use Rattle.std.proofs.Common.{◌-◌, length}
use Rattle.tangle_text.proofs.RunLemmas.{HasComeTo}
use Rattle.tangle_text.proofs.runs.end_of.Given as goal

abbrev pub invariant-loop-end : goal.invariant-loop-end
invariant-loop-end g l = HasComeTo g.R.Run.size l.bytes l.from l.end

abbrev pub decreases-loop-end : goal.decreases-loop-end
decreases-loop-end g l = length l.bytes - l.end

abbrev pub invariant-loop-end-2 : goal.invariant-loop-end-2
invariant-loop-end-2 g l = HasComeTo g.R.Run.size l.bytes l.from l.end

abbrev pub decreases-loop-end-2 : goal.decreases-loop-end-2
decreases-loop-end-2 g l = length l.bytes - l.end
