use Rattle.std.proofs.Common.{rules}
use Rattle.std.proofs.Common.{refl}
use Rattle.tangle_bodies.specs.Nodes.{title_at}
use Rattle.tangle_graph.proofs.NameLemmas.{no_shape}
use Rattle.tangle_graph.proofs.bodies.body_before.Goals as goal

pub returns-in_err-found-clause-shape : goal.returns-in_err-found-clause-shape
returns-in_err-found-clause-shape c = rw (c.in_ok-old.was, c.from_residual-in_err-found.ensures) (λ shapes is.
    no_shape shapes c.in_ok-old.old.now (title_at c.args.names.now c.args.node) is
    (rw c.names.ensures at (c.in_err-found.ensures.none refl)))

pub returns-clause-shape : goal.returns-clause-shape
returns-clause-shape c = rw c.in_ok-old.was (λ shapes is.
    let own = is.bodies.each c.if-same_names.found c.body.result.now.value c.body.ensures.body in
    search (rules, own.shape))
