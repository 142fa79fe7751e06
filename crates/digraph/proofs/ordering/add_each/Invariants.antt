use Rattle.std.proofs.Common.{Bool, List, ℕ}
use Rattle.digraph.specs.OrderSoFar.{IsOrderSoFar, IsStuck, unflagged}
use Rattle.digraph.proofs.PassLemmas.{Passed}
use Rattle.digraph.proofs.ordering.add_each.Given as goal

abbrev pub invariant-loop-n : goal.invariant-loop-n
invariant-loop-n l = Passed {S = List Bool × List ℕ} (λ s. IsOrderSoFar l.uses s.0 s.1) (λ s. IsStuck l.uses s.1)
    (λ s. unflagged s.0) (unflagged l.initial.flags.items) (l.flags.items, l.order.items) l.any l.n
