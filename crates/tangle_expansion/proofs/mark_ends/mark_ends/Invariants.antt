use Rattle.std.proofs.Common.{◌≡◌, take, map}
use Rattle.tangle_expansion.specs.Numbers.{mark_end}
use Rattle.tangle_expansion.proofs.mark_ends.mark_ends.Given as goal

abbrev pub invariant-loop-number : goal.invariant-loop-number
invariant-loop-number l = map (λ e. e.items) l.ends.items ≡ map mark_end (take l.number l.web.file_names)
