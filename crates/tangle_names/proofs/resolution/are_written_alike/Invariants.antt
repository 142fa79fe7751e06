use Rattle.std.proofs.Common.{◌≡◌, take, map}
use Rattle.tangle_names.specs.NameTable.{written_form}
use Rattle.tangle_names.proofs.resolution.are_written_alike.Given as goal

abbrev pub invariant-loop-i : goal.invariant-loop-i
invariant-loop-i l = map written_form (take l.i l.old) ≡ map written_form (take l.i l.new)
