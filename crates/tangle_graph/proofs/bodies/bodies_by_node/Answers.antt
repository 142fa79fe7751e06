use Rattle.std.proofs.Common.{rules}
use Rattle.std.proofs.lemmas.Bool.Decides.{nat_tests}
use Rattle.std.proofs.Common.{length-append, arith}
use Rattle.std.specs.Global.{Global}
use Rattle.std.specs.declared.rc.Rc.{Rc}
use Rattle.std.proofs.lemmas.List.{length-map}
use Rattle.tangle_bodies.specs.declared.nodes.NodeBody.{NodeBody}
use Rattle.tangle_graph.proofs.PushLemmas.{IsBodyMade, bodies_push, new_of_old}
use Rattle.tangle_graph.proofs.bodies.bodies_by_node.Goals as goal

pub loop-n-preserved : goal.loop-n-preserved
loop-n-preserved c =
    let made = c.in_ok-made.made in
    record {
      size = grind (arith, nat_tests, length-append);
      flags_size = grind (arith, nat_tests, length-append);
      each = rw (c.in_ok-push-2.ensures.items, c.in_ok-push.ensures.items)
          (bodies_push (IsBodyMade c.args.grouped c.args.old) c.loop-n.bodies.items
          c.loop-n.new_shapes.items c.loop-n.n made.body made.has_new_shape c.loop-n.invariant.size
          c.loop-n.invariant.flags_size c.loop-n.invariant.each (
            rw c.new.ensures at c.in_ok-made.ensures.body,
            rw c.new.ensures at c.in_ok-made.ensures.new_shape,
          ));
    }

pub returns-clause-bodies : goal.returns-clause-bodies
returns-clause-bodies c =
    let bodies = c.loop-n.bodies.items in
    let count = length-map bodies (λ (t : Rc NodeBody Global). t.value) in
    record {
      size = search rules;
      each = λ node body at. (c.loop-n.invariant.each node body at).0;
    }

pub returns-clause-new_shapes : goal.returns-clause-new_shapes
returns-clause-new_shapes c = search (rules, new_of_old)
