use Rattle.std.proofs.Common.{rules}
use Rattle.std.proofs.lemmas.Result.{IfOk-weaker}
use Rattle.tangle_graph.proofs.AffectedLemmas.{lists_affected}
use Rattle.tangle_graph.proofs.edits.affected.Goals as goal

pub returns : goal.returns
returns c = λ old before after are old_is new_is.
    let order = c.order-order.result.now in
    let all = lists_affected after c.args.new.now order new_is c.order-order.ensures before
    c.in_ok-flags.flags.items (c.in_ok-flags.ensures old before after are old_is new_is) in
    search (rules, all, IfOk-weaker)
