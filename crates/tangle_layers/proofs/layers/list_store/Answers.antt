use Rattle.std.proofs.Common.{◌∙◌, ap, refl, subst, sym}
use Rattle.tangle_names.specs.NameTable.{TableRead, table_of}
use Rattle.tangle_expansion.specs.Numbers.{numbers_of}
use Rattle.tangle_expansion.proofs.NumberLemmas.{titles_used_of}
use Rattle.tangle_bodies.specs.Nodes.{IsGroupedBy}
use Rattle.tangle_bodies.specs.WebShapes.{shapes, ResolvesInside}
use Rattle.tangle_bodies.proofs.InsideLemmas.{table_inside}
use Rattle.tangle_layers.proofs.OutputLemmas.{outputs_ready}
use Rattle.tangle_layers.proofs.layers.list_store.Goals as goal

pub numbers-requires : goal.numbers-requires
numbers-requires g c =
    let is = rw c.requires at c.in_ok-store.ensures.store in
    record { store = is.store; names = is.names; pieces = is.grouped }

pub list_outputs-requires : goal.list_outputs-requires
list_outputs-requires g c =
    let web = c.args.web.now in
    let table = c.args.table.now in
    let store = c.in_ok-store.ensures.store in
    let kept = c.in_ok-kept.ensures.kept (shapes web table) store.store in
    let inside = subst (λ (t : TableRead). ResolvesInside t) (sym c.requires) (table_inside web) in
    let numbers = c.in_ok-numbers.ensures ∙ ap (λ t. numbers_of web t c.marks.result) (sym c.requires) in
    let ready = outputs_ready web table c.out.result.now c.in_ok-store.field-0.store
    c.in_ok-kept.kept store kept inside (λ shapes node e. e.light) (numbers_of web table c.marks.result)
    (titles_used_of web table c.marks.result inside) refl in
    rw (c.outputs.ensures, numbers) ready
