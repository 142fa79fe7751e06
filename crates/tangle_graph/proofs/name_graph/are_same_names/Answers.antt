use Rattle.std.proofs.Common.{rules}
use Rattle.std.proofs.Common.{[], arith}
use Rattle.std.proofs.lemmas.List.{take_more_same}
use Rattle.tangle_graph.proofs.name_graph.are_same_names.Goals as goal

pub loop-id-preserved : goal.loop-id-preserved
loop-id-preserved c = take_more_same c.args.names.now c.args.others.now c.loop-id.id [] (omega arith) (omega arith)
    c.loop-id.invariant (search rules)
