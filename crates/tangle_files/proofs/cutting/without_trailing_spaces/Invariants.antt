use Rattle.std.proofs.Common.{◌≡◌, ◌≤◌, length, take}
use Rattle.tangle_files.specs.Lines.{trimmed}
use Rattle.tangle_files.proofs.cutting.without_trailing_spaces.Given as goal

abbrev pub invariant-loop-end : goal.invariant-loop-end
invariant-loop-end l = record {
  within : l.end ≤ length l.line;
  spaces : trimmed (take l.end l.line) ≡ trimmed l.line;
}

abbrev pub decreases-loop-end : goal.decreases-loop-end
decreases-loop-end l = l.end
