use Rattle.std.proofs.Common.{Ok, drop, false}
use Rattle.tangle_loading.specs.Loading.{missed_in, so_far}
use Rattle.tangle_loading.specs.Endings.{Step}
use Rattle.tangle_loading.proofs.loading.read_inclusions.Given as goal

abbrev pub invariant-loop-fault : goal.invariant-loop-fault
invariant-loop-fault g l =
    Step false (missed_in l.faults) (missed_in (drop l.fault-index l.faults)) (g.F.Folder.state l.initial.folder)
    (so_far l.initial.asked (Ok l.initial.files)) (g.F.Folder.state l.folder) (so_far l.asked (Ok l.files))
