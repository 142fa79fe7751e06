use Rattle.std.proofs.Common.{◌-◌, ◌≤◌, ◌<◌, ℕ, [], length, get_or}
use Rattle.std.specs.Option.{option_copied}
use Rattle.tangle_files.specs.Adding.{longest_line}
use Rattle.tangle_lines.specs.Waiting.{IsUnchanged}
use Rattle.tangle_lines.proofs.waiting.plain_count.Given as goal

abbrev pub invariant-loop-count : goal.invariant-loop-count
invariant-loop-count l = record {
  limit : l.count ≤ l.most;
  plain : (k : ℕ) → k < l.count → IsUnchanged (option_copied l.awaited) (get_or l.lines k []);
  short : (k : ℕ) → k < l.count → length (get_or l.lines k []) ≤ longest_line;
}

abbrev pub decreases-loop-count : goal.decreases-loop-count
decreases-loop-count l = l.most - l.count
