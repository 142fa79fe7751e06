use Rattle.std.proofs.Common.{rules}
use Rattle.std.proofs.Common.{arith, length-set}
use Rattle.std.proofs.lemmas.List.{take_all}
use Rattle.tangle_graph.specs.Stores.{flag_at}
use Rattle.tangle_graph.proofs.FlagLemmas.{at_position, flagged_next}
use Rattle.tangle_graph.proofs.edits.reaching_new_shapes.Goals as goal

pub loop-node-preserved : goal.loop-node-preserved
loop-node-preserved c =
    let i = c.loop-node.node-index in
    let node = c.node-item.result in record {
      size = search (rules, length-set);
      flagged = λ old before after are old_is new_is.
          rw (c.set_flag.ensures, c.has_cause-flag.ensures, c.deref.ensures.value)
          (flagged_next c.args.new.now c.args.order.now c.requires i c.loop-node-test.true node
          c.node-item.is before after new_is c.loop-node.flags.items
          (c.loop-node.invariant.flagged old before after are old_is new_is)
          (flag_at c.args.new_shapes.now node) c.loop-node.invariant.size
          (are before after old_is new_is node (at_position c.args.new.now c.args.order.now c.requires i
          c.loop-node-test.true node c.node-item.is)));
    }

pub returns : goal.returns
returns c = λ old before after are old_is new_is node h. c.loop-node.invariant.flagged old before after
    are old_is new_is node
    (rw (take_all c.loop-node.node-index c.args.order.now (omega arith)) h)
