use Rattle.digraph.specs.Finding.{IsDecided, IsFinding}
use Rattle.digraph.specs.OrderSoFar.{unflagged}
use Rattle.digraph.proofs.PassLemmas.{Passed}
use Rattle.digraph.proofs.reach.find_each.Given as goal

abbrev pub invariant-loop-n : goal.invariant-loop-n
invariant-loop-n l = Passed (IsFinding l.uses l.target) (IsDecided l.uses l.target) unflagged
    (unflagged l.initial.found) l.found l.any l.n
