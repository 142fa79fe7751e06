use Rattle.std.proofs.Common.{[], ◌++◌, take}
use Rattle.std.specs.List.{fold}
use Rattle.tangle_streams.specs.Streams.{TakesAll}
use Rattle.ctangle_cli.proofs.messages.say.Given as goal

abbrev pub invariant-loop-part : goal.invariant-loop-part
invariant-loop-part g l =
    TakesAll (g.S.Sink.stream l.initial.sink) (g.S.Sink.stream l.sink)
    (fold (λ front part. front ++ part.now) [] (take l.part-index l.parts))
