use Rattle.std.proofs.Common.{rules}
use Rattle.std.proofs.Common.{◌≡◌, false, get_or, inl, inr, ◌∙◌, sym, true≢false}
use Rattle.std.proofs.lemmas.List.{get_or_read}
use Rattle.digraph.proofs.OrderSoFarLemmas.{order_push}
use Rattle.digraph.proofs.ordering.add_to_order.Goals as goal
use Rattle.digraph.proofs.ordering.add_to_order.Goals.{then-index-via-then-index}
use Rattle.digraph.proofs.ordering.add_to_order.Goals.{then-index-via-else-index+then-any_with}

pub returns-then-index-clause-stuck : goal.returns-then-index-clause-stuck
returns-then-index-clause-stuck c = λ _.
    elim c.then-index.branch [
      | then-index-via-then-index w ↦ inl ((c.requires.order.flagged c.args.n).0 (search (rules, get_or_read)))
      | then-index-via-else-index+then-any_with w ↦
          (let one = rw (w.row.ensures, w.deref.ensures.value) at (w.any_with.ensures.one w.if-any_with.true) in
          inr (one.0, one.1, λ inside. true≢false (sym ((c.requires.order.flagged one.0).1 inside) ∙ one.2)))
    ]

pub returns-clause-order : goal.returns-clause-order
returns-clause-order c =
    let flagged = rw (c.row.ensures, c.deref.ensures.value)
    at (c.any_with.ensures.none c.if-any_with.false) in
    let free : get_or c.args.flags.now.items c.args.n false ≡ false = search (rules, get_or_read) in
    rw (c.in_ok-push.ensures.items, c.new.ensures) (search (rules, order_push))
