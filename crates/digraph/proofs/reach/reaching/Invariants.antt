use Rattle.digraph.specs.Finding.{IsFinding}
use Rattle.digraph.specs.OrderSoFar.{unflagged}
use Rattle.digraph.proofs.reach.reaching.Given as goal

abbrev pub invariant-loop-n : goal.invariant-loop-n
invariant-loop-n l = IsFinding l.uses l.target l.found.items

abbrev pub invariant-loop : goal.invariant-loop
invariant-loop l = IsFinding l.uses l.target l.found.items

abbrev pub decreases-loop : goal.decreases-loop
decreases-loop l = unflagged l.found.items
