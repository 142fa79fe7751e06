use Rattle.std.proofs.Common.{◌≡◌, true, drop}
use Rattle.tangle_lexer.proofs.lemmas.NameWords.{is_single_spaced}
use Rattle.tangle_lexer.proofs.names.has_single_spaces.Given as goal

abbrev pub invariant-loop-byte : goal.invariant-loop-byte
invariant-loop-byte l = is_single_spaced l.white (drop l.byte-index l.bytes) ≡ is_single_spaced true l.bytes
