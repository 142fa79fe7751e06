use Rattle.std.proofs.Common.{rules}
use Rattle.std.proofs.Common.{append-nil}
use Rattle.std.proofs.lemmas.Option.{slice_get_past}
use Rattle.tangle_graph.proofs.faults.FaultSearch.add_fault.Goals as goal

pub returns-in_default-get : goal.returns-in_default-get
returns-in_default-get c =
    search (rules, slice_get_past, append-nil)
