use Rattle.std.proofs.Common.{rules}
use Rattle.tangle_graph.proofs.StoredBodies.{had, given}
use Rattle.tangle_graph.proofs.store.Store.body.Goals as goal

pub returns : goal.returns
returns c =
    let at = rw c.deref-bodies.ensures at c.index.ensures in
    let is = given c.self.inside c.args.self.now c.args.node c.self.view_is c.self.invariant c.number.result
    c.number.ensures c.requires c.index.result.now at in
    search (rules, had)
