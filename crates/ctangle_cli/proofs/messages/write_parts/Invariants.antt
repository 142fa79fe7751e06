use Rattle.std.proofs.Common.{[], ◌++◌, take}
use Rattle.std.specs.List.{fold}
use Rattle.tangle_streams.specs.Streams.{IsWritten}
use Rattle.ctangle_cli.proofs.messages.write_parts.Given as goal

abbrev pub invariant-loop-part : goal.invariant-loop-part
invariant-loop-part g l =
    IsWritten (g.E.Sink.stream l.initial.err) (g.E.Sink.stream l.err)
    (fold (λ front part. front ++ part.now) [] (take l.part-index l.parts)) l.written
