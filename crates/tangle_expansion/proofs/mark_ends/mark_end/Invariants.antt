use Rattle.std.proofs.Common.{◌≡◌, ◌++◌, drop}
use Rattle.std.specs.Prelude.{codes, flat_map}
use Rattle.tangle_expansion.specs.Numbers.{escaped, escaped_byte}
use Rattle.tangle_expansion.proofs.mark_ends.mark_end.Given as goal

abbrev pub invariant-loop-byte : goal.invariant-loop-byte
invariant-loop-byte l =
    l.bytes.items ++ flat_map escaped_byte (drop l.byte-index l.name) ≡ codes " \"" ++ escaped l.name
