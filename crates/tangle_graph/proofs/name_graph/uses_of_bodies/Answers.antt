use Rattle.std.proofs.Common.{rules}
use Rattle.std.proofs.lemmas.Grind.{common_steps}
use Rattle.std.proofs.Common.{◌≡◌, ◌≤◌, ◌<◌, ℕ, List, arith, length, map, take}
use Rattle.std.specs.Global.{Global}
use Rattle.std.specs.declared.rc.Rc.{Rc}
use Rattle.std.proofs.lemmas.List.{length-map}
use Rattle.digraph.specs.Graph.{Graph}
use Rattle.tangle_bodies.specs.NodeBodies.{body_uses}
use Rattle.tangle_bodies.specs.declared.nodes.NodeBody.{NodeBody}
use Rattle.tangle_graph.specs.NameGraphs.{AreUsesOf}
use Rattle.tangle_bodies.specs.NodeBodies.{node_bodies}
use Rattle.tangle_graph.proofs.NameGraphLemmas.{each_in_range, each_increasing}
use Rattle.tangle_graph.proofs.NameGraphLemmas.{uses_more, uses_push}
use Rattle.tangle_graph.proofs.name_graph.uses_of_bodies.Goals as goal

all_taken : (i : ℕ) (bodies : List (Rc NodeBody Global)) (rows : Graph) → length bodies ≤ i
    → AreUsesOf (map body_uses (node_bodies (take i bodies))) rows → AreUsesOf (map body_uses (node_bodies bodies)) rows
all_taken i bodies rows h are =
    grind (arith, common_steps)

pub loop-body-preserved : goal.loop-body-preserved
loop-body-preserved c =
    let bodies = c.args.bodies.now in
    let i = c.loop-body.body-index in
    let body = c.body-item.result in
    let once = c.once_each.new.row.items in
    let given : c.extend_from_slice.new.self.items ≡ body_uses body.value = search rules in
    let made : c.deref-in-loop-body.result.now ≡ once = search rules in
    rw (uses_more bodies i body c.loop-body-test.true c.body-item.is, c.in_ok-push_row.ensures.ok, made)
    (uses_push (map body_uses (node_bodies (take i bodies))) c.loop-body.rows (body_uses body.value) once
    c.loop-body.invariant (rw given at c.once_each.ensures))

pub returns-clause-range : goal.returns-clause-range
returns-clause-range c =
    let bodies = c.args.bodies.now in
    each_in_range (map body_uses (node_bodies bodies)) c.loop-body.rows
    (all_taken c.loop-body.body-index bodies c.loop-body.rows (omega arith) c.loop-body.invariant)
    (search (rules, length-map))

pub returns-clause-increasing : goal.returns-clause-increasing
returns-clause-increasing c =
    search (rules, each_increasing, all_taken)
