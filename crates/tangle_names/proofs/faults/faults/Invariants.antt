use Rattle.std.proofs.Common.{◌≡◌, ◌++◌, take, flat_map}
use Rattle.tangle_names.specs.Faults.{prefix_fault, resolution_faults}
use Rattle.tangle_names.specs.Resolving.{names_in_order, resolve}
use Rattle.tangle_names.proofs.faults.faults.Given as goal

abbrev pub invariant-loop-number : goal.invariant-loop-number
invariant-loop-number l = l.faults.items
    ≡ resolution_faults l.web.file_names (resolve l.web.occurrences) (take l.number l.web.occurrences)

abbrev pub invariant-loop-id : goal.invariant-loop-id
invariant-loop-id l = l.faults.items
    ≡ resolution_faults l.web.file_names (resolve l.web.occurrences) l.web.occurrences
    ++ flat_map (prefix_fault l.web) (take l.id (names_in_order l.web.occurrences))
