use Rattle.std.proofs.Common.{rules}
use Rattle.std.proofs.Common.{◌∙◌, ap, get_or, refl, take}
use Rattle.std.proofs.lemmas.List.{get_or_read, take_more}
use Rattle.std.proofs.lemmas.List.Recursion.{max_push}
use Rattle.digraph.specs.Nodes.{Node}
use Rattle.tangle_graph.specs.Measures.{greatest_by, measure_at}
use Rattle.tangle_graph.proofs.measures.greatest_depth.Goals as goal

pub loop-node-preserved : goal.loop-node-preserved
loop-node-preserved c =
    let uses = c.args.uses.now in
    let i = c.loop-node.node-index in
    let depth = λ (node : Node). (measure_at c.args.measures.now node).depth in
    let more = ap (greatest_by depth) (take_more uses i 0 c.loop-node-test.true)
    ∙ max_push (greatest_by depth) depth refl (λ x xs. refl) (take i uses) (get_or uses i 0) in
    let at = get_or_read _ _ _ c.loop-node-test.true c.node-item.is 0 in
    search (rules, at)
