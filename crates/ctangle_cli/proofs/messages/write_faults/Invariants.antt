use Rattle.std.proofs.Common.{take}
use Rattle.tangle_streams.specs.Streams.{TakesAll}
use Rattle.ctangle_cli.specs.Messages.{fault_lines}
use Rattle.ctangle_cli.proofs.messages.write_faults.Given as goal

abbrev pub invariant-loop-fault : goal.invariant-loop-fault
invariant-loop-fault g l =
    TakesAll (g.E.Sink.stream l.initial.err) (g.E.Sink.stream l.err) (fault_lines (take l.fault-index l.faults))
