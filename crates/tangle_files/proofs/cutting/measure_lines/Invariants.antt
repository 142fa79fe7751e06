use Rattle.std.proofs.Common.{◌≡◌, ◌+◌, ◌||◌, length}
use Rattle.std.specs.List.{list_any}
use Rattle.tangle_files.specs.Lines.{cut}
use Rattle.tangle_files.specs.Adding.{is_too_long}
use Rattle.tangle_files.proofs.cutting.measure_lines.Given as goal

abbrev pub invariant-loop-rest : goal.invariant-loop-rest
invariant-loop-rest l = record {
  long : (l.is_too_long || list_any is_too_long (cut l.rest)) ≡ list_any is_too_long (cut l.bytes);
  count : l.count + length (cut l.rest) ≡ length (cut l.bytes);
}

abbrev pub decreases-loop-rest : goal.decreases-loop-rest
decreases-loop-rest l = length l.rest
