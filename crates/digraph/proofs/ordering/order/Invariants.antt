use Rattle.digraph.specs.OrderSoFar.{IsOrderSoFar, unflagged}
use Rattle.digraph.proofs.ordering.order.Given as goal

abbrev pub invariant-loop-n : goal.invariant-loop-n
invariant-loop-n l = IsOrderSoFar l.uses l.acyclic.items l.nodes.items

abbrev pub invariant-loop-nodes : goal.invariant-loop-nodes
invariant-loop-nodes l = IsOrderSoFar l.uses l.acyclic.items l.nodes.items

abbrev pub decreases-loop-nodes : goal.decreases-loop-nodes
decreases-loop-nodes l = unflagged l.acyclic.items
