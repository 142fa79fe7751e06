use Rattle.digraph.proofs.PassLemmas.{passed_next}
use Rattle.digraph.proofs.reach.find_each.Goals as goal

pub loop-n-preserved : goal.loop-n-preserved
loop-n-preserved c =
    let found = c.find-any.ensures in
    passed_next c.loop-n.invariant found.finding found.more found.same found.decided
