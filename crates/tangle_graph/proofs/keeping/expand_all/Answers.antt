use Rattle.std.proofs.Common.{◌∙◌, ◌≢◌, append-nil, arith, false, sym, true}
use Rattle.std.proofs.lemmas.List.{take_all}
use Rattle.tangle_graph.specs.Stores.{is_expandable_at}
use Rattle.tangle_graph.proofs.KeepLemmas.{kept_all, kept_more, kept_same, listed_more}
use Rattle.std.proofs.lemmas.List.Kept.{AllPairs-filter}
use Rattle.tangle_names.proofs.ContainsLemmas.{into_filter, out_of_filter}
use Rattle.tangle_graph.proofs.keeping.expand_all.Goals as goal
use Rattle.tangle_graph.proofs.keeping.expand_all.Goals.{then-expandable+in_ok-expand_next, else-expandable}

pub loop-node-preserved : goal.loop-node-preserved
loop-node-preserved c =
    let store = c.args.store.now in
    let order = c.order-order.result.now in
    let ordered = c.order-order.ensures in
    let i = c.loop-node.node-index in
    let h = c.loop-node-test.true in
    let node = c.node-item.result in
    let at = c.node-item.is in
    let kept = c.loop-node.invariant.kept in
    elim c.if-expandable.branch [
      | then-expandable+in_ok-expand_next w ↦ (let flag = sym c.expandable.ensures ∙ w.if-expandable.true in
          record {
            kept = λ shapes is. rw w.kept-is
                (kept_more is ordered i h node at _ _ flag (kept shapes is) (w.in_ok-expand_next.ensures.kept shapes is));
            work = listed_more (is_expandable_at store) order i node true _ _ _ h at flag c.loop-node.invariant.work
                (w.work-is ∙ w.in_ok-expand_next.ensures.listed);
          })
      | else-expandable w ↦ (let flag = sym c.expandable.ensures ∙ w.if-expandable.false in
          record {
            kept = λ shapes is. rw w.kept-is
                (kept_same is ordered i h node at c.loop-node.kept flag (kept shapes is));
            work = listed_more (is_expandable_at store) order i node false _ _ _ h at flag c.loop-node.invariant.work
                (w.work-is ∙ sym (append-nil c.loop-node.work));
          })
    ]

pub returns-clause-kept : goal.returns-clause-kept
returns-clause-kept c = λ shapes is. kept_all is c.order-order.ensures
    c.loop-node.node-index c.loop-node.kept (omega arith) (c.loop-node.invariant.kept shapes is)

pub returns-clause-work : goal.returns-clause-work
returns-clause-work c =
    let store = c.args.store.now in
    let order = c.order-order.result.now in
    let ordered = c.order-order.ensures in (
      _,
      c.loop-node.invariant.work,
      rw (take_all c.loop-node.node-index order (omega arith)) (record {
        once = AllPairs-filter (λ a b. a ≢ b) (is_expandable_at store) order ordered.once;
        just = λ a. (
          λ here. (let there = out_of_filter (is_expandable_at store) order a here in (ordered.inside a there.0, there.1)),
          λ both. into_filter (is_expandable_at store) order a (ordered.expandable a both.0 both.1) both.1,
        );
      }),
    )
