-- Several writes, one after another.
use Rattle.std.proofs.Common.{◌≡◌, ℕ, List, ◌++◌}
use Rattle.std.specs.Prelude.{Result}
use Rattle.tangle_streams.specs.declared.failures.WriteFault.{WriteFault}
use Rattle.tangle_streams.specs.Streams.{Stream, IsWrittenAfter}
use Rattle.tangle_faults.proofs.WriteLemmas.{writes_then}
use Rattle.tangle_expansion.specs.Writing.{Wrote}

pub wrote_more : (a b c : Stream) (r s t : Result ℕ WriteFault) (left xs rest whole : List ℕ)
    → Wrote a b r s left whole → left ≡ xs ++ rest → IsWrittenAfter b c s xs t → Wrote a c r t rest whole
wrote_more a b c r s t left xs rest whole w e p =
    λ last all more. w last all (rw e (writes_then b c last s t all xs rest p more))
