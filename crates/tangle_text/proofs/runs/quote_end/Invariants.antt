use Rattle.std.proofs.Common.{◌≡◌, ◌≤◌, ◌-◌, false, length, drop}
use Rattle.tangle_text.specs.Runs.{quote_size}
use Rattle.tangle_text.proofs.QuoteLemmas.{after_some}
use Rattle.tangle_text.proofs.runs.quote_end.Given as goal

abbrev pub invariant-loop-end : goal.invariant-loop-end
invariant-loop-end l = record {
  low : l.from ≤ l.end;
  high : l.end ≤ length l.bytes;
  size : quote_size l.close false (drop l.from l.bytes) ≡ after_some (l.end - l.from) (quote_size l.close l.is_escaped (drop l.end l.bytes));
}

abbrev pub decreases-loop-end : goal.decreases-loop-end
decreases-loop-end l = length l.bytes - l.end
