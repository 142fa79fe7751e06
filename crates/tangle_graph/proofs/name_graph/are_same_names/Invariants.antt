use Rattle.std.proofs.Common.{◌≡◌, take}
use Rattle.tangle_graph.proofs.name_graph.are_same_names.Given as goal

abbrev pub invariant-loop-id : goal.invariant-loop-id
invariant-loop-id l = take l.id l.names ≡ take l.id l.others
