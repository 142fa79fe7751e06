use Rattle.std.proofs.Common.{◌≡◌, ◌∙◌, ◌++◌, ◌∷◌, [], false, ap, arith, get_or, length, sym, zero-add}
use Rattle.std.proofs.lemmas.List.FromFn.{get_or-map-range_with_len, map-range_with_len_more}
use Rattle.tangle_graph.specs.NamedFiles.{flags_of}
use Rattle.tangle_graph.proofs.named_files.NamedFiles.find.Goals as goal

pub loop-id-preserved : goal.loop-id-preserved
loop-id-preserved c shapes measured =
    let out = c.args.out.now in
    let id = c.loop-id.id in
    let was = c.loop-id.invariant shapes measured in
    let now = c.in_ok-found.ensures shapes out measured c.in_ok-main_form.ensures was.0 in (
      now.0,
      c.in_ok-push.ensures.items ∙ (λ i. was.1 i ++ now.1 i ∷ [])
          ∙ sym (map-range_with_len_more (flags_of shapes c.args.table.now out) 0 id id (zero-add id)),
    )

pub returns : goal.returns
returns c shapes measured = λ id low.
    let end : c.loop-id.id ≡ length c.args.table.now.names =
    omega (arith, c.count-id-end.ensures, c.loop-id-test.false, c.loop-id.auto.id-end) in
    ap (λ l. get_or l id (false, false)) (c.loop-id.invariant shapes measured).1
    ∙ get_or-map-range_with_len (flags_of shapes c.args.table.now c.args.out.now) 0 _ id id (false, false)
    (omega (arith, low, end)) (zero-add id)
