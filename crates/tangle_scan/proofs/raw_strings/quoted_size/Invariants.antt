use Rattle.std.proofs.Common.{◌≡◌, ◌≤◌, ◌+◌, ◌-◌, drop, length}
use Rattle.tangle_scan.specs.RawStrings.{quoted_size}
use Rattle.tangle_scan.proofs.raw_strings.quoted_size.Given as goal

abbrev pub invariant-loop-end : goal.invariant-loop-end
invariant-loop-end l = record {
  same : l.end + quoted_size (drop l.end l.bytes) ≡ quoted_size l.bytes;
  inside : l.end ≤ length l.bytes + 1;
}

abbrev pub decreases-loop-end : goal.decreases-loop-end
decreases-loop-end l = length l.bytes - l.end
