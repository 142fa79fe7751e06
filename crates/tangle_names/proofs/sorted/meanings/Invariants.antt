use Rattle.std.proofs.Common.{◌≡◌, take, map}
use Rattle.tangle_names.specs.Names.{meaning}
use Rattle.tangle_names.specs.Sorted.{borrowed_names, meaning_of}
use Rattle.tangle_names.proofs.sorted.meanings.Given as goal

abbrev pub invariant-loop-occurrence : goal.invariant-loop-occurrence
invariant-loop-occurrence l =
    map meaning_of l.meanings.items ≡ map (meaning (borrowed_names l.sorted)) (take l.occurrence-index l.occurrences)
