use Rattle.std.proofs.Common.{◌≡◌, ◌++◌, ℕ, List, take}
use Rattle.tangle_lexer.specs.Names.{form_after}
use Rattle.tangle_lexer.proofs.names.push_bytes.Given as goal

abbrev pub invariant-loop-byte : goal.invariant-loop-byte
invariant-loop-byte l =
    (rest : List ℕ) → form_after l.name.items l.after rest
    ≡ form_after l.fn.name.items l.fn.white (take l.byte-index l.bytes ++ rest)
