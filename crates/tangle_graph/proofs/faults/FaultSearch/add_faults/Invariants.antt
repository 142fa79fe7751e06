use Rattle.std.proofs.Common.{◌≡◌, ◌++◌, flat_map, take}
use Rattle.tangle_graph.specs.Faults.{fault_of_name}
use Rattle.tangle_graph.proofs.faults.FaultSearch.add_faults.Given as goal

abbrev pub invariant-loop-id : goal.invariant-loop-id
invariant-loop-id l =
    l.faults.items ≡ l.fn.faults.items ++ flat_map (fault_of_name l.self.web.now l.self.table.now l.self.out.now l.kind) (take l.id-index l.names)
