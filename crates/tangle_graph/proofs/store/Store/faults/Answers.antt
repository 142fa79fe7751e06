use Rattle.std.proofs.Common.{◌∙◌, ap, map, sym}
use Rattle.tangle_names.specs.NameTable.{TableRead}
use Rattle.tangle_names.specs.Resolving.{resolve}
use Rattle.tangle_bodies.specs.WebShapes.{shapes}
use Rattle.tangle_bodies.specs.Nodes.{title_at}
use Rattle.tangle_graph.proofs.CycleLemmas.{contains_computed, cycle_computed}
use Rattle.std.proofs.lemmas.Bool.Decides.{same_from_decides}
use Rattle.tangle_graph.specs.Measures.{AreMeasures}
use Rattle.tangle_graph.specs.Stores.{StoreRead}
use Rattle.tangle_graph.proofs.store.Store.faults.Goals as goal

pub faults-requires : goal.faults-requires
faults-requires c =
    let web = c.args.web.now in
    let table = c.args.table.now in
    let is = c.requires.store in
    let read = c.occurrences.ensures.occurrences in
    let measured : AreMeasures (shapes web table) table.names c.args.self.now.measures =
    rw is.names at is.store.measures in
    record {
      measured = measured;
      containing = λ n low. same_from_decides _ _ (rw is.names at is.store.contains_itself n low)
          (contains_computed web table c.requires.table (title_at table.names n));
      reaching = λ n low. same_from_decides _ _ (is.reaching_cycles n low)
          (cycle_computed web table c.requires.table (title_at table.names n));
      named = c.in_ok-find.ensures (shapes web table)
          (rw (c.deref.ensures.value ∙ ap (λ (s : StoreRead). s.measures) c.self.view_is) measured);
      uses_size = c.in_ok-first_numbers.ensures.size;
      first_uses = rw read at (c.in_ok-first_numbers.ensures.numbers (resolve web.occurrences)
          (ap (λ (t : TableRead). t.resolved) c.requires.table ∙ ap (map (resolve web.occurrences)) (sym read)));
    }
