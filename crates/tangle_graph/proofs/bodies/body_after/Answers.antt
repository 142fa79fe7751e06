use Rattle.std.proofs.Common.{arith}
use Rattle.std.proofs.Common.{rules}
use Rattle.std.proofs.lemmas.Bool.Decides.{nat_tests}
use Rattle.std.proofs.Common.{◌∙◌, [], ap, refl, sym}
use Rattle.std.proofs.lemmas.List.{length-map}
use Rattle.std.proofs.lemmas.Option.{IfSome_then}
use Rattle.digraph.specs.Graph.{row_at}
use Rattle.tangle_bodies.specs.NodeBodies.{ItemsRead}
use Rattle.tangle_bodies.specs.Nodes.{title_at}
use Rattle.tangle_graph.proofs.BodyLemmas.{new_unless_same}
use Rattle.tangle_graph.proofs.BodyMakingLemmas.{body_made, body_of_items, new_if_pieces, numbers, uses_below}
use Rattle.tangle_graph.proofs.bodies.body_after.Goals as goal
use Rattle.tangle_graph.proofs.bodies.body_after.Goals.{then-has_new_shape+in_ok-body-2, else-has_new_shape+in_ok-body-3}

pub make-requires-clause-numbers : goal.make-requires-clause-numbers
make-requires-clause-numbers c = search (rules, numbers)

pub has_shape_of-has_new_shape-requires-clause-inside : goal.has_shape_of-has_new_shape-requires-clause-inside
has_shape_of-has_new_shape-requires-clause-inside c =
    grind (arith, nat_tests, uses_below)

pub returns-clause-body : goal.returns-clause-body
returns-clause-body c =
    let row = c.row-row.ensures ∙ ap (row_at c.args.grouped.pieces.now) c.number.ensures in
    elim c.if-has_new_shape.branch [
      | then-has_new_shape+in_ok-body-2 w ↦ rw w.body-is (body_made c.args.grouped c.requires.grouped
          c.args.node c.requires.node c.row-row.result.now row _ c.in_ok-make.ensures _ w.in_ok-body-2.ensures)
      | else-has_new_shape+in_ok-body-3 w ↦ (
          let is = w.in_ok-body-3.ensures in
          let one = rw c.deref-2.ensures at (c.has_shape_of-has_new_shape.ensures.0 w.if-has_new_shape.false) in
          rw w.body-is (body_of_items c.args.grouped c.requires.grouped
          c.args.node c.requires.node c.row-row.result.now row _ c.in_ok-make.ensures {others = []} {other = []} _
          (rw is (record { tags = one.tags; bytes = one.bytes; uses = refl }))
          (sym (ap (λ (i : ItemsRead). i.uses) is))))
    ]

pub returns-clause-new_shape : goal.returns-clause-new_shape
returns-clause-new_shape c =
    let names = c.args.grouped.names.now in
    let old_names = c.in-Some.before.names.now in
    let had = c.in-Some.before.body.now.value in
    let same = c.has_shape_of-has_new_shape.result in
    elim c.if-has_new_shape.branch [
      | then-has_new_shape+in_ok-body-2 w ↦ rw w.body-is
          (IfSome_then c.args.old c.in-Some.ensures.shape (λ store held before shape is holds.
          new_unless_same names old_names w.in_ok-body-2.body.value had shape (before (title_at names c.args.node)) same
          (search rules) holds (held before is)))
      | else-has_new_shape+in_ok-body-3 w ↦ (
          let one = rw c.deref-2.ensures at (c.has_shape_of-has_new_shape.ensures.0 w.if-has_new_shape.false) in
          rw w.body-is (IfSome_then c.args.old c.in-Some.ensures.shape (λ store held before shape is holds.
          new_unless_same names old_names w.in_ok-body-3.body.value had shape (before (title_at names c.args.node)) same (
            λ _. rw w.in_ok-body-3.ensures (record { tags = refl; bytes = refl; uses = one.uses }),
            λ _. w.if-has_new_shape.false,
          ) holds (held before is))))
    ]

pub returns-in_default-clause-body : goal.returns-in_default-clause-body
returns-in_default-clause-body c =
    body_made c.args.grouped c.requires.grouped c.args.node c.requires.node
    c.row-row.result.now (c.row-row.ensures ∙ ap (row_at c.args.grouped.pieces.now) c.number.ensures) _ c.in_ok-make.ensures _ c.in_ok-body.ensures

pub returns-in_default-clause-new_shape : goal.returns-in_default-clause-new_shape
returns-in_default-clause-new_shape c =
    IfSome_then c.args.old c.in_default.ensures.shape (λ store none before shape is holds.
    rw c.is_empty-has_new_shape.ensures
    (new_if_pieces c.args.grouped c.requires.grouped c.args.node c.requires.node c.row-row.result.now
    (c.row-row.ensures ∙ ap (row_at c.args.grouped.pieces.now) c.number.ensures) c.in_ok-body.body.value shape
    (before (title_at c.args.grouped.names.now c.args.node)) (returns-in_default-clause-body c) holds (none before is)))
