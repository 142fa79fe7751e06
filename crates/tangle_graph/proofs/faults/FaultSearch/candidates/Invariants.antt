use Rattle.std.proofs.Common.{◌≡◌, ◌<◌, flat_map, length}
use Rattle.std.specs.Prelude.{All}
use Rattle.std.specs.List.{range_with_len}
use Rattle.tangle_faults.specs.declared.faults.FaultKind.{FaultKind}
use Rattle.tangle_graph.specs.Faults.{fault_of_name}
use Rattle.tangle_graph.proofs.faults.FaultSearch.candidates.Given as goal

abbrev pub invariant-loop-id : goal.invariant-loop-id
invariant-loop-id l = record {
  names : All (λ id. id < length l.self.table.now.names) l.names.items;
  faults : (kind : FaultKind) → flat_map (fault_of_name l.self.web.now l.self.table.now l.self.out.now kind) l.names.items
      ≡ flat_map (fault_of_name l.self.web.now l.self.table.now l.self.out.now kind) (range_with_len 0 l.id);
}
