use Rattle.std.proofs.Common.{ℕ, List, ◌+◌, ◌<◌, ◌^◌, length}
use Rattle.tangle_streams.specs.Streams.{Stream, IsWritten}
use Rattle.tangle_streams.proofs.StreamLemmas.{IsHalfway}
use Rattle.tangle_streams.proofs.writing.write_after.Given as goal

abbrev pub invariant-loop-rest : goal.invariant-loop-rest
invariant-loop-rest g l =
    (old : Stream) (output : List ℕ)
    → IsWritten old (g.S.Sink.stream l.fn.sink) output l.fn.so_far
    → length output + length l.bytes < 2 ^ 128
    → IsHalfway old (g.S.Sink.stream l.sink) l.count output l.bytes l.rest

abbrev pub decreases-loop-rest : goal.decreases-loop-rest
decreases-loop-rest g l = length l.rest
