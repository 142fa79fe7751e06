use Rattle.std.proofs.Common.{rules}
use Rattle.std.proofs.Common.{[], arith}
use Rattle.tangle_bodies.proofs.EachLemmas.{part_read, read}
use Rattle.tangle_bodies.specs.NodeBodies.{body_uses}
use Rattle.tangle_bodies.specs.Nodes.{titles_at}
use Rattle.tangle_bodies.specs.declared.nodes.NodeBody.{NodeBody}
use Rattle.tangle_expansion.proofs.numbers.Numbers.uses.Goals as goal

pub returns-clause-titles : goal.returns-clause-titles
returns-clause-titles c =
    let low = rw (← c.self.view_is) at c.requires in
    let at = rw (c.deref-bodies.ensures, c.number.ensures) at c.index.ensures in
    let body = read c.self.inside.bodies.value.items c.args.node c.index.result.now
    (omega (arith, c.self.invariant.bodies)) at in
    let titled = λ (body : NodeBody). titles_at c.self.inside.names (body_uses body) in
    rw (← c.self.view_is, c.self.invariant.found c.args.node low, part_read titled _ _ _ [] body) (search rules)

pub returns-clause-inside : goal.returns-clause-inside
returns-clause-inside c =
    let low = rw (← c.self.view_is) at c.requires in
    let at = rw (c.deref-bodies.ensures, c.number.ensures) at c.index.ensures in
    let body = read c.self.inside.bodies.value.items c.args.node c.index.result.now
    (omega (arith, c.self.invariant.bodies)) at in
    search (rules, c.self.invariant.inside)
