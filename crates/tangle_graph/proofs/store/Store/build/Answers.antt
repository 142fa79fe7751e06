use Rattle.std.proofs.Common.{arith}
use Rattle.std.proofs.lemmas.Bool.Decides.{nat_tests}
use Rattle.std.proofs.Common.{◌∙◌, ap, length, refl}
use Rattle.std.proofs.lemmas.List.{length-map}
use Rattle.std.proofs.lemmas.Option.{IfSome_then}
use Rattle.tangle_bodies.specs.WebShapes.{shapes}
use Rattle.tangle_graph.specs.declared.name_graph.NameGraph.{NameGraph}
use Rattle.tangle_graph.proofs.GraphLemmas.{resolves_inside, uses_count}
use Rattle.tangle_graph.proofs.NameGraphLemmas.{uses_inside}
use Rattle.tangle_graph.proofs.NameLemmas.{new_shapes_of}
use Rattle.tangle_graph.proofs.StoredRows.{grouped_by}
use Rattle.tangle_graph.proofs.StoreOfWeb.{is_built, reaching_is}
use Rattle.tangle_graph.proofs.store.Store.build.Goals as goal

pub name_graph_after-requires-clause-inside : goal.name_graph_after-requires-clause-inside
name_graph_after-requires-clause-inside c = rw c.deref.ensures.value
    (uses_inside (shapes c.args.web.now c.args.table.now) _ c.in_ok-made.made.bodies.items c.in_ok-made.ensures.bodies)

pub outputs-requires : goal.outputs-requires
outputs-requires c =
    let web = c.args.web.now in
    let table = c.args.table.now in
    let graph = rw c.deref.ensures.value at c.in_ok-name_graph.ensures.name_graph in
    let bodies = rw c.in_ok-names.ensures at c.in_ok-made.ensures.bodies in
    record {
      inside = resolves_inside web table c.requires;
      ours = grind (arith, nat_tests, length-map);
      size = ap length c.deref-4.ensures.value ∙ c.in_ok-measures.ensures.size
          ∙ rw c.deref-shared.ensures (uses_count (shapes web table) _ _ _ bodies graph.uses);
      measures = rw c.deref-4.ensures.value
          (c.in_ok-measures.ensures.measures (shapes web table) table.names (rw c.deref-3.ensures.value bodies));
    }

pub returns-clause-store : goal.returns-clause-store
returns-clause-store c =
    let graph = rw c.deref.ensures.value at c.in_ok-name_graph.ensures.name_graph in
    let bodies = rw c.in_ok-names.ensures at c.in_ok-made.ensures.bodies in
    let named = c.in_ok-name_graph.ensures.names ∙ c.in_ok-names.ensures in
    let built = is_built c.args.web.now c.args.table.now _ _ c.requires bodies graph _ _ _
    (c.in_ok-measures.ensures.size ∙ ap (λ (g : NameGraph). length g.uses) c.deref-shared.ensures)
    (c.in_ok-measures.ensures.measures _ _ (rw c.deref-3.ensures.value bodies)) _ named in
    rw c.in_ok-bodies.ensures.ok (record {
      store = built.0;
      names = named;
      reaching_cycles = reaching_is c.args.web.now c.args.table.now _ _ c.requires bodies graph;
      outputs = c.in_ok-outputs.ensures;
      grouped = grouped_by _ _ c.in_ok-pieces.pieces.value c.requires
          (rw c.in_ok-pieces.ensures.ok c.in_ok-pieces_by_node.ensures);
    })

pub invariant_of-store : goal.invariant_of-store
invariant_of-store c =
    let graph = rw c.deref.ensures.value at c.in_ok-name_graph.ensures.name_graph in
    let bodies = rw c.in_ok-names.ensures at c.in_ok-made.ensures.bodies in
    let named = c.in_ok-name_graph.ensures.names ∙ c.in_ok-names.ensures in
    let built = is_built c.args.web.now c.args.table.now _ _ c.requires bodies graph _ _ _
    (c.in_ok-measures.ensures.size ∙ ap (λ (g : NameGraph). length g.uses) c.deref-shared.ensures)
    (c.in_ok-measures.ensures.measures _ _ (rw c.deref-3.ensures.value bodies)) _ named in
    rw c.in_ok-bodies.ensures.ok (record { shapes = _; store = built.0; name_graph = graph; order = built.1 })

pub returns-clause-new_shapes : goal.returns-clause-new_shapes
returns-clause-new_shapes c = rw c.in_ok-bodies.ensures.ok (IfSome_then c.args.old c.in_ok-made.ensures.new_shapes (λ store are.
    new_shapes_of store.now _ _ _ c.in_ok-made.made.new_shapes.items c.in_ok-name_graph.ensures.names refl are))
