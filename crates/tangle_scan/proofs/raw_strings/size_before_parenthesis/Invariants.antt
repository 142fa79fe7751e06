use Rattle.std.proofs.Common.{◌≡◌, ◌≤◌, ◌+◌, ◌-◌, drop, length}
use Rattle.std.specs.List.{prefix_len}
use Rattle.tangle_scan.specs.RawStrings.{is_before_parenthesis}
use Rattle.tangle_scan.proofs.raw_strings.size_before_parenthesis.Given as goal

abbrev pub invariant-loop-end : goal.invariant-loop-end
invariant-loop-end l = record {
  same : l.end + prefix_len is_before_parenthesis (drop l.end l.bytes) ≡ prefix_len is_before_parenthesis l.bytes;
  inside : l.end ≤ length l.bytes;
}

abbrev pub decreases-loop-end : goal.decreases-loop-end
decreases-loop-end l = length l.bytes - l.end
