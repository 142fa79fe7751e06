use Rattle.std.proofs.Common.{rules}
use Rattle.std.proofs.Common.{◌≡◌, ◌<◌, ℕ, List, get_or, length}
use Rattle.std.proofs.lemmas.List.{get_or-map, length-map, take_more_same}
use Rattle.digraph.specs.Nodes.{Node}
use Rattle.tangle_bodies.specs.Nodes.{title_at, titles_at}
use Rattle.tangle_bodies.specs.Shapes.{Program}
use Rattle.tangle_bodies.proofs.shapes.have_titles_of.Goals as goal

at_titles : (names : List (List ℕ)) (nodes : List Node) (i : ℕ) (node : Node) → i < length nodes → node ≡ get_or nodes i node
    → get_or (titles_at names nodes) i Program ≡ title_at names node
at_titles names nodes i node h at = search (rules, get_or-map (title_at names) nodes i node Program)

pub returns-then-not-has_title_of : goal.returns-then-not-has_title_of
returns-then-not-has_title_of c =
    let here = at_titles c.args.names.now c.args.nodes.now c.loop-i.i c.index-nodes-i.result in
    let there = at_titles c.args.other_names.now c.args.others.now c.loop-i.i c.index-others-i.result in
    search (rules, here, there)

pub loop-i-preserved : goal.loop-i-preserved
loop-i-preserved c =
    let here = at_titles c.args.names.now c.args.nodes.now c.loop-i.i c.index-nodes-i.result in
    let there = at_titles c.args.other_names.now c.args.others.now c.loop-i.i c.index-others-i.result in
    take_more_same (titles_at c.args.names.now c.args.nodes.now) (titles_at c.args.other_names.now c.args.others.now)
    c.loop-i.i Program (search (rules, length-map)) (search (rules, length-map)) c.loop-i.invariant (search (rules, here, there))
