use Rattle.std.proofs.Common.{◌≡◌, ◌+◌, ◌≤◌, length, min, map, drop}
use Rattle.tangle_lines.specs.Reading.{unequal_lines}
use Rattle.tangle_lines.proofs.reading.take_old.Given as goal

abbrev pub invariant-loop-rest : goal.invariant-loop-rest
invariant-loop-rest l = record {
  lines : l.lines + min (length l.rest) (length l.waiting) ≡ min (length l.fn.old_lines) (length l.fn.waiting);
  unequal : l.unequal + unequal_lines (map (λ o. o.now) l.rest) l.waiting
      ≡ unequal_lines (map (λ o. o.now) l.fn.old_lines) l.fn.waiting;
  left : drop (length l.rest) l.waiting ≡ drop (length l.fn.old_lines) l.fn.waiting;
  few : l.unequal + length l.rest ≤ length l.fn.old_lines;
}

abbrev pub decreases-loop-rest : goal.decreases-loop-rest
decreases-loop-rest l = length l.rest
