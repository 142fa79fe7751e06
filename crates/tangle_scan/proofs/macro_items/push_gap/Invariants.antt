use Rattle.std.proofs.Common.{◌≡◌, ◌++◌}
use Rattle.tangle_scan.specs.Passes.{gap_tokens}
use Rattle.tangle_scan.proofs.macro_items.push_gap.Given as goal

abbrev pub invariant-loop : goal.invariant-loop
invariant-loop l = l.spaced.items ≡ l.fn.spaced.items ++ gap_tokens l.fn.has_blank l.counter
