use Rattle.std.proofs.Common.{◌≡◌, ◌∙◌, ◌&&◌, Bool, Contains, List, append-nil, arith, false, sym, true}
use Rattle.std.proofs.lemmas.Bool.{and_from, both_ways}
use Rattle.std.proofs.lemmas.List.{take_all}
use Rattle.digraph.specs.Nodes.{Node}
use Rattle.tangle_graph.specs.Ordering.{IsOrderIn}
use Rattle.tangle_graph.specs.Stores.{IsStoreOf, StoreRead, flag_at, is_expandable_at}
use Rattle.tangle_graph.proofs.ExpandLemmas.{expandable_at}
use Rattle.tangle_graph.specs.Affected.{EditedShapes}
use Rattle.tangle_graph.specs.AffectedFlags.{AreFlagged, is_expandable_and_flagged}
use Rattle.tangle_graph.specs.Keeping.{IsUnaffected}
use Rattle.tangle_graph.proofs.KeepLemmas.{kept_all, kept_more, kept_same, listed_more}
use Rattle.tangle_graph.proofs.AffectedLemmas.{lists_affected}
use Rattle.tangle_graph.proofs.keeping.expand_again.Goals as goal
use Rattle.tangle_graph.proofs.keeping.expand_again.Goals.{
  then-expandable+then-is_flagged+in_ok-expand_next,
  then-expandable+else-is_flagged+in_ok-share+in_ok-put,
  else-expandable,
}

-- an expandable node without a flag is not affected
unaffected : (new : StoreRead) (order : List Node) (flags : List Bool) (shapes : EditedShapes) (node : Node)
    → IsStoreOf shapes.new new → IsOrderIn new order → Contains order node
    → AreFlagged shapes.old shapes.new new flags order → is_expandable_at new node ≡ true
    → flag_at flags node ≡ false → IsUnaffected new shapes node
unaffected new order flags shapes node is ordered c are flag off = (
  (expandable_at shapes.new new is node (ordered.inside node c)).0 flag,
  λ affected. both_ways (flag_at flags node) off ((are node c).1 (affected.cause, affected.reaches, affected.changed)),
)

pub share_old-requires : goal.share_old-requires
share_old-requires c =
    let here : Contains c.order-order.result.now c.node-item.result =
    (c.loop-node.node-index, c.loop-node-test.true, sym c.node-item.is) in
    let shapes = c.requires.edit.0 in
    let is = c.requires.edit.1 in
    record {
      node = c.order-order.ensures.inside c.node-item.result here;
      edit = (
        shapes,
        is,
        unaffected _ _ _ shapes _ is.after c.order-order.ensures here
            (c.in_ok-flags.ensures _ _ _ c.requires.new_shapes is.before is.after)
            (sym c.expandable.ensures ∙ c.if-expandable.true)
            (rw c.deref.ensures.value at (sym c.is_flagged.ensures ∙ c.if-is_flagged.false)),
      );
    }

pub loop-node-preserved : goal.loop-node-preserved
loop-node-preserved c =
    let new = c.args.new.now in
    let order = c.order-order.result.now in
    let ordered = c.order-order.ensures in
    let i = c.loop-node.node-index in
    let h = c.loop-node-test.true in
    let node = c.node-item.result in
    let at = c.node-item.is in
    let flags = c.in_ok-flags.flags.items in
    let kept = c.loop-node.invariant.kept in
    let listed = is_expandable_and_flagged new flags in
    elim c.if-expandable.branch [
      | then-expandable+then-is_flagged+in_ok-expand_next w ↦ (
          let on = sym c.expandable.ensures ∙ w.if-expandable.true in
          let flag = rw w.deref.ensures.value at (sym w.is_flagged.ensures ∙ w.if-is_flagged.true) in
          record {
            kept = λ shapes is. rw w.kept-is (kept_more is.after ordered i h node at _ _ on (kept shapes is)
                (w.in_ok-expand_next.ensures.kept shapes.new is.after));
            work = listed_more listed order i node true _ _ _ h at
                (and_from (is_expandable_at new node) (flag_at flags node) on flag)
                c.loop-node.invariant.work (w.work-is ∙ w.in_ok-expand_next.ensures.listed);
          })
      | then-expandable+else-is_flagged+in_ok-share+in_ok-put w ↦ (
          let on = sym c.expandable.ensures ∙ w.if-expandable.true in
          let off = rw w.deref.ensures.value at (sym w.is_flagged.ensures ∙ w.if-is_flagged.false) in
          record {
            kept = λ shapes is. rw w.kept-is
                (kept_more is.after ordered i h node at _ _ on (kept shapes is)
                (λ _. (
                  _,
                  w.in_ok-put.ensures.ok,
                  w.in_ok-share.ensures shapes is
                      (unaffected _ _ _ shapes _ is.after ordered (i, h, sym at)
                      (c.in_ok-flags.ensures _ _ _ c.requires.new_shapes is.before is.after) on off),
                )));
            work = listed_more listed order i node false _ _ _ h at (λ j. on j && off j) c.loop-node.invariant.work
                (w.work-is ∙ sym (append-nil c.loop-node.work));
          })
      | else-expandable w ↦ (let off = sym c.expandable.ensures ∙ w.if-expandable.false in
          record {
            kept = λ shapes is. rw w.kept-is
                (kept_same is.after ordered i h node at c.loop-node.kept off (kept shapes is));
            work = listed_more listed order i node false _ _ _ h at (λ j. off j && flag_at flags node)
                c.loop-node.invariant.work (w.work-is ∙ sym (append-nil c.loop-node.work));
          })
    ]

pub returns-clause-kept : goal.returns-clause-kept
returns-clause-kept c = λ shapes is. kept_all is.after c.order-order.ensures
    c.loop-node.node-index c.loop-node.kept (omega arith) (c.loop-node.invariant.kept shapes is)

pub returns-clause-work : goal.returns-clause-work
returns-clause-work c = λ shapes is. (
  _,
  c.loop-node.invariant.work,
  rw (take_all c.loop-node.node-index c.order-order.result.now (omega arith))
      (lists_affected shapes.new c.args.new.now c.order-order.result.now is.after c.order-order.ensures shapes.old
      c.in_ok-flags.flags.items
      (c.in_ok-flags.ensures c.args.old.now shapes.old shapes.new c.requires.new_shapes is.before is.after)),
)
