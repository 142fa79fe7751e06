use Rattle.std.proofs.Common.{rules}
use Rattle.tangle_graph.proofs.shapes.body_in.Goals as goal

pub returns-clause-shape : goal.returns-clause-shape
returns-clause-shape c = λ shapes is.
    let own = is.bodies.each c.args.node c.body.result.now.value c.body.ensures.body in
    search (rules, own.shape)
