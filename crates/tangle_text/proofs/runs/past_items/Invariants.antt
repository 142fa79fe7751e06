use Rattle.std.proofs.Common.{◌≡◌, ◌≤◌, ◌+◌, ◌-◌, length, drop}
use Rattle.tangle_text.specs.Runs.{is_run_byte, passing, run_size}
use Rattle.tangle_text.proofs.runs.past_items.Given as goal

abbrev pub invariant-loop-start : goal.invariant-loop-start
invariant-loop-start l = record {
  end : l.end ≡ l.start + passing is_run_byte (drop l.start l.bytes);
  inside : l.end ≤ length l.bytes;
  same : l.start + run_size 0 (drop l.start l.bytes) ≡ l.from + run_size 0 (drop l.from l.bytes);
}

abbrev pub decreases-loop-start : goal.decreases-loop-start
decreases-loop-start l = length l.bytes - l.end
