use Rattle.std.proofs.Common.{◌≡◌, take}
use Rattle.tangle_names.specs.Names.{full_names}
use Rattle.tangle_names.specs.Sorted.{borrowed_names}
use Rattle.tangle_names.proofs.sorted.sorted_names.Given as goal

abbrev pub invariant-loop-occurrence : goal.invariant-loop-occurrence
invariant-loop-occurrence l = borrowed_names l.names.items ≡ full_names (take l.occurrence-index l.occurrences)
