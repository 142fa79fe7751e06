use Rattle.std.proofs.Common.{arith}
use Rattle.digraph.proofs.PassLemmas.{passed_next}
use Rattle.digraph.proofs.ordering.add_each.Goals as goal

pub loop-n-preserved : goal.loop-n-preserved
loop-n-preserved c =
    let added = c.in_ok-any.ensures in
    passed_next c.loop-n.invariant added.order added.more
    (λ e. (let same = added.same e in λ i. (same.0 i, same.1 i))) added.stuck

pub returns-clause-none : goal.returns-clause-none
returns-clause-none c = λ e n h. c.loop-n.invariant.tried e n (omega (arith, h))
