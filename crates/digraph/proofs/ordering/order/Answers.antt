use Rattle.std.proofs.Common.{◌∙◌, inl, inr, sym}
use Rattle.std.proofs.lemmas.Bool.{true≢false, false_from_ne_true}
use Rattle.digraph.proofs.OrderLemmas.{ordered_acyclic}
use Rattle.digraph.proofs.PathLemmas.{left_out_cycles}
use Rattle.digraph.proofs.ordering.order.Goals as goal

pub returns-clause-order : goal.returns-clause-order
returns-clause-order c = record {
  after_uses = c.in_ok-add_each.ensures.order.after_uses;
  rest = λ n h out. elim (c.in_ok-add_each.ensures.none c.if-branch.false n h) [
    | inl listed ↦ absurd (out listed)
    | inr found ↦ found
  ];
}

pub returns-clause-cycles : goal.returns-clause-cycles
returns-clause-cycles c = λ n h.
    let flagged = c.in_ok-add_each.ensures.order.flagged n in (
      λ off. left_out_cycles c.args.uses.now c.requires _ (returns-clause-order c) n h
          (λ listed. true≢false (sym (flagged.1 listed) ∙ off)),
      λ cycle. false_from_ne_true _ (λ on.
          ordered_acyclic c.args.uses.now _ n (returns-clause-order c) (flagged.0 on) cycle),
    )
