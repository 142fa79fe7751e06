use Rattle.std.proofs.Common.{◌≡◌, map, take, drop, fold}
use Rattle.tangle_names.specs.Resolving.{names_of, resolved_meaning, with_name}
use Rattle.tangle_names.specs.Sorted.{meaning_of}
use Rattle.tangle_names.proofs.numbers.resolve_all.Given as goal

abbrev pub invariant-loop-meaning : goal.invariant-loop-meaning
invariant-loop-meaning l = record {
  names : fold with_name l.names.keys (map meaning_of (drop l.meaning-index l.meanings))
      ≡ names_of (map meaning_of l.meanings);
  resolved : l.resolved.items
      ≡ map (resolved_meaning (names_of (map meaning_of l.meanings)))
      (map meaning_of (take l.meaning-index l.meanings));
}
