use Rattle.std.proofs.Common.{rules}
use Rattle.std.proofs.Common.{◌≡◌, ◌∙◌, ◌<◌, ◌≤◌, ℕ, List, false, map, ap, arith, get_or, length, length-set, subst}
use Rattle.std.proofs.Common.{get_or-set_other, get_or-set_same, set}
use Rattle.std.proofs.lemmas.List.{get_or-replicate, get_or_read, length-replicate, take_all}
use Rattle.std.specs.Prelude.{Contains}
use Rattle.digraph.specs.Graph.{Graph, HasUse, InRange}
use Rattle.digraph.specs.Order.{IsOrder}
use Rattle.digraph.proofs.GraphLemmas.{use_in}
use Rattle.digraph.proofs.OrderLemmas.{left_out_deep}
use Rattle.tangle_expansion.specs.Limits.{levels, weight_cap}
use Rattle.tangle_bodies.specs.Flat.{depth, weight}
use Rattle.tangle_bodies.specs.NodeBodies.{body_uses}
use Rattle.tangle_bodies.specs.Nodes.{title_at}
use Rattle.tangle_names.proofs.ContainsLemmas.{no_item}
use Rattle.tangle_bodies.specs.NodeBodies.{AreBodiesOf, node_bodies}
use Rattle.tangle_graph.specs.NameGraphs.{AreUsesOf}
use Rattle.tangle_bodies.specs.Shapes.{Shapes}
use Rattle.tangle_bodies.specs.declared.nodes.NodeBody.{NodeBody}
use Rattle.tangle_graph.specs.Measures.{measure_at, measure_of, no_piece_measure}
use Rattle.tangle_graph.specs.declared.measures.Measure.{Measure}
use Rattle.tangle_bodies.proofs.EachLemmas.{read}
use Rattle.tangle_graph.proofs.GraphLemmas.{sound, use_up, uses_count}
use Rattle.tangle_expansion.proofs.UsedLemmas.{deeper, heavier}
use Rattle.tangle_graph.proofs.FlagLemmas.{value_next}
use Rattle.tangle_graph.proofs.StepLemmas.{measure_beyond}
use Rattle.tangle_graph.proofs.measures.measures_of_nodes.Goals as goal

-- what is recorded at first holds of each node that is left out of the order
beyond : (shapes : Shapes) (names : List (List ℕ)) (bodies : List NodeBody) (uses : Graph) (order : List ℕ)
    → AreBodiesOf shapes names bodies → AreUsesOf (map body_uses bodies) uses → IsOrder uses order → InRange uses
    → (n : ℕ) → n < length uses → (Contains order n → ⊥)
    → record { weight = weight_cap; depth = levels; is_expandable = false } ≡ measure_of shapes (title_at names n)
beyond shapes names bodies uses order are used is range n h none =
    let title = title_at names in
    let out = sound shapes names bodies uses are used in
    measure_beyond shapes (title n)
    (left_out_deep uses order is range (λ k m. k ≤ depth k shapes (title m)) (λ m. omega arith)
    (λ k a b u. deeper k shapes (title a) (title b) (out a b u)) levels n h none)
    (left_out_deep uses order is range (λ k m. k ≤ weight k shapes (title m)) (λ m. omega arith)
    (λ k a b u. heavier k shapes (title a) (title b) (out a b u)) weight_cap n h none)

pub loop-node-init : goal.loop-node-init
unfolding weight_cap levels
loop-node-init c =
    let all = c.in_ok-measures.ensures.items_if_clones_equal (λ y same. same) in
    record {
      size = omega (arith, ap length all, length-replicate {A = Measure}, c.len.ensures);
      measured = λ shapes names bodies n low into. (
          let first : measure_at c.in_ok-measures.measures.items n
          ≡ record { weight = weight_cap; depth = levels; is_expandable = false } =
          search (rules, get_or-replicate) in
          first ∙ beyond shapes names (node_bodies c.args.bodies.now) c.args.uses.now c.args.order.now bodies
          c.requires.uses c.requires.order c.requires.range n low (λ listed. no_item n (into listed)));
    }

pub loop-node-preserved : goal.loop-node-preserved
loop-node-preserved c =
    let uses = c.args.uses.now in
    let order = c.args.order.now in
    let i = c.loop-node.node-index in
    let h = c.loop-node-test.true in
    let n = c.number-n.result in
    let after_uses = c.requires.order.after_uses in
    let number : n ≡ get_or order i 0 = c.number-n.ensures ∙ get_or_read _ _ _ h c.node-item.is 0 in
    let low : n < length uses = omega (arith, number, after_uses.nodes i 0 h) in
    let values = c.loop-node.measures.items in
    let made = c.measure_of_node.result in
    record {
      size = length-set values n made ∙ c.loop-node.invariant.size;
      measured = λ shapes names bodies m room into. (
          let all = node_bodies c.args.bodies.now in
          let body = c.index-bodies-n.result in
          let at = read c.args.bodies.now n body (omega (arith, low, c.requires.size)) c.index-bodies-n.is in
          let is = bodies.each n body.value at in
          let measured = c.loop-node.invariant.measured shapes names bodies in
          value_next order i n h (c.number-n.ensures ∙ get_or_read _ _ _ h c.node-item.is n)
          (λ k. measure_at values k ≡ measure_of shapes (title_at names k))
          (λ k. measure_at (set values n made) k ≡ measure_of shapes (title_at names k))
          (λ k other was. get_or-set_other values n k made no_piece_measure other ∙ was)
          (get_or-set_same values n made _ (omega (arith, low, c.loop-node.invariant.size))
          ∙ c.measure_of_node.ensures shapes names _ (rw c.deref-in-loop-node.ensures is.shape)
          (λ used has. (
          let c_used = rw c.deref-in-loop-node.ensures at has in
          let u = use_up shapes names all uses bodies c.requires.uses n used body.value at c_used in
          rw c.deref.ensures.value (measured used (use_in uses c.requires.range n used u)
          (λ _. after_uses.after i used h (subst (λ k. HasUse uses k used) number u))))))
          (Contains order m) m (measured m room) into);
    }

pub returns-clause-measures : goal.returns-clause-measures
returns-clause-measures c = λ shapes names bodies n low. c.loop-node.invariant.measured shapes names bodies n
    (omega (arith, low, uses_count shapes names (node_bodies c.args.bodies.now) c.args.uses.now bodies c.requires.uses))
    (rw (take_all c.loop-node.node-index c.args.order.now c.loop-node-test.false) (λ listed. listed))
