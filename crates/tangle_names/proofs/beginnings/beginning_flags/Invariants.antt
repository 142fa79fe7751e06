use Rattle.std.proofs.Common.{◌≡◌, take, map}
use Rattle.tangle_names.specs.Sorted.{borrowed_names}
use Rattle.tangle_names.proofs.BeginningLemmas.{begins_among}
use Rattle.tangle_names.proofs.beginnings.beginning_flags.Given as goal

abbrev pub invariant-loop-position : goal.invariant-loop-position
invariant-loop-position l =
    l.begins.items ≡ map (begins_among l.names.keys (take l.position (borrowed_names l.sorted))) l.names.keys
