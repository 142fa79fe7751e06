use Rattle.tangle_expansion.proofs.SameShapes.{cycle_deep_and_heavy}
use Rattle.tangle_expansion.proofs.Unaffected.{no_cycle}
use Rattle.tangle_expansion.proofs.laws.expandable_nodes_reach_no_cycle.Goals as goal

pub returns : goal.returns
returns c = record { none = no_cycle; fuel = cycle_deep_and_heavy }
