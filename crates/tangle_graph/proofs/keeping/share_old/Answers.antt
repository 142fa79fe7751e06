use Rattle.std.proofs.Common.{◌≡◌, ◌∙◌, subst, sym}
use Rattle.digraph.specs.Nodes.{Node}
use Rattle.tangle_expansion.specs.Limits.{IsExpandableNode, heaviest, levels}
use Rattle.tangle_expansion.specs.declared.kept.Kept.{Kept}
use Rattle.std.proofs.Common.{rules}
use Rattle.std.proofs.lemmas.Result.{IfOk-weaker}
use Rattle.tangle_expansion.specs.Expanded.{Expanded}
use Rattle.tangle_expansion.proofs.Unaffected.{stays, stays_given}
use Rattle.tangle_graph.specs.Stores.{IsNodeIn, StoreRead, title_in_store}
use Rattle.tangle_graph.proofs.ExpandLemmas.{expandable_at}
use Rattle.tangle_graph.proofs.NameLemmas.{node_with_piece, some_unless}
use Rattle.tangle_graph.specs.Affected.{EditedShapes}
use Rattle.tangle_graph.specs.Keeping.{IsEditOf, IsKeptRight, IsRight, IsUnaffected}
use Rattle.tangle_graph.proofs.keeping.share_old.Goals as goal

was_kept : (old new : StoreRead) (kept : Kept) (shapes : EditedShapes) (node before : Node)
    → IsEditOf old new kept shapes → IsUnaffected new shapes node → IsNodeIn old before
    → title_in_store old before ≡ title_in_store new node
    → IsKeptRight shapes.old old kept before
was_kept old new kept shapes node before is unaffected inside same =
    (is.expansions before).expandable ((expandable_at shapes.old old is.before before inside).1
    (subst (IsExpandableNode shapes.old) (sym same)
    (stays levels heaviest shapes.old shapes.new (title_in_store new node) unaffected.0 unaffected.1).0))

still_right : (old new : StoreRead) (shapes : EditedShapes) (node before : Node) → IsUnaffected new shapes node
    → title_in_store old before ≡ title_in_store new node → (e : Expanded) → IsRight shapes.old old before e
    → IsRight shapes.new new node e
still_right old new shapes node before unaffected same e right =
    let title = title_in_store new node in
    stays_given levels heaviest shapes.old shapes.new title unaffected.0 unaffected.1 e
    ∙ rw same at right
    ∙ sym (stays levels heaviest shapes.old shapes.new title unaffected.0 unaffected.1).1

pub unwrap-before-requires : goal.unwrap-before-requires
unwrap-before-requires c =
    let node = c.args.node in
    let shapes = c.requires.edit.0 in
    let is = c.requires.edit.1 in
    let unaffected = c.requires.edit.2 in
    let before_edit = stays levels heaviest shapes.old
    shapes.new (title_in_store c.args.new.now node) unaffected.0 unaffected.1 in
    let at =
    node_with_piece shapes.old c.args.old.now (title_in_store c.args.new.now node) is.before before_edit.0.has_piece in
    some_unless c.node_before.result
    (λ none. (rw (c.names.ensures, c.names-2.ensures) at (c.node_before.ensures.none none)) at.0 at.1 at.2)

pub unwrap-requires : goal.unwrap-requires
unwrap-requires c =
    let found = was_kept c.args.old.now c.args.new.now c.args.old_kept.now c.requires.edit.0 c.args.node
    c.unwrap-before.result c.requires.edit.1 c.requires.edit.2
    (rw (c.unwrap-before.ensures, c.names.ensures) at c.node_before.ensures.inside)
    (rw (c.unwrap-before.ensures, c.names.ensures, c.names-2.ensures) at c.node_before.ensures.title) in
    some_unless c.get.result (λ none. let both = (rw none at c.get.ensures) ∙ found.1 in absurd (cc))

pub returns : goal.returns
returns c = λ shapes is unaffected.
    let same = rw (c.unwrap-before.ensures, c.names.ensures, c.names-2.ensures) at c.node_before.ensures.title in
    let found = was_kept c.args.old.now c.args.new.now c.args.old_kept.now shapes c.args.node c.unwrap-before.result is
    unaffected (rw (c.unwrap-before.ensures, c.names.ensures) at c.node_before.ensures.inside) same in
    let kept : c.unwrap.result.now ≡ found.0 = search rules in
    IfOk-weaker c.share.result _ _ (λ e h. subst (IsRight shapes.new c.args.new.now c.args.node) (sym (h ∙ kept))
    (still_right c.args.old.now c.args.new.now shapes c.args.node c.unwrap-before.result unaffected same found.0 found.2))
    c.share.ensures
