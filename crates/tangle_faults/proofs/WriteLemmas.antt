-- Several writes, one after another.
use Rattle.std.proofs.Common.{rules}
use Rattle.std.proofs.Common.{◌^◌, ◌<◌, ℕ, List, [], ◌++◌, append_assoc, arith, length, length-append}
use Rattle.std.specs.Prelude.{Result, Ok}
use Rattle.tangle_streams.proofs.StreamLemmas.{IsWritten-none}
use Rattle.tangle_streams.specs.declared.failures.WriteFault.{WriteFault}
use Rattle.tangle_streams.specs.Streams.{Stream, IsWritten, IsWrittenAfter}

pub writes_then : (a b c : Stream) (r s t : Result ℕ WriteFault) (xs ys : List ℕ)
    → IsWrittenAfter a b r xs s → IsWrittenAfter b c s ys t → IsWrittenAfter a c r (xs ++ ys) t
writes_then a b c r s t xs ys first second = search (rules, length-append, append_assoc)

-- what is written after nothing is written whole
pub written_whole : (a b : Stream) (r : Result ℕ WriteFault) (bytes : List ℕ)
    → length bytes < 2 ^ 128 → IsWrittenAfter a b (Ok 0) bytes r → IsWritten a b bytes r
written_whole a b r bytes fits h = h a [] (IsWritten-none a) (omega arith)
