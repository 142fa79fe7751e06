-- From what the faults of the graph are found. Only private contracts cite these definitions.
use Rattle.std.specs.Prelude.{◌≡◌, ◌<◌, ℕ, List, flat_map, length, slice_index_or}
use Rattle.tangle_faults.specs.declared.faults.FaultKind.{FaultKind}
use Rattle.tangle_names.specs.declared.first_numbers.Counted.TheVariants as counted
use Rattle.tangle_names.specs.Numbers.{first_by_number}
use Rattle.tangle_names.specs.Resolving.{resolve}
use Rattle.tangle_bodies.specs.Nodes.{IsNodeOf, title_at}
use Rattle.tangle_bodies.specs.WebShapes.{shapes}
use Rattle.digraph.specs.Nodes.{Node}
use Rattle.tangle_graph.specs.Cycles.{contains_itself, reaches_cycle}
use Rattle.tangle_graph.specs.Faults.{fault_of_name, faults_of_names}
use Rattle.tangle_graph.specs.Measures.{AreMeasures}
use Rattle.tangle_graph.specs.NamedFiles.{AreFileFlags}
use Rattle.tangle_graph.specs.Stores.{contains_itself_at, reaches_cycle_at}
use Rattle.tangle_graph.specs.declared.faults.FaultSearch.{FaultSearch}

module _ (search : FaultSearch) where
  -- What the store says of the nodes holds for the web. Flags say which names are the main file's
  -- or an earlier file's. The first uses of the names are those of the web.
  pub record IsFaultSearch : Type 0 where
    pub measured : AreMeasures (shapes search.web.now search.table.now) search.table.now.names
        search.store.now.measures
    pub containing : (n : Node) → IsNodeOf search.table.now.names n
        → contains_itself_at search.store.now n
        ≡ contains_itself (shapes search.web.now search.table.now) search.table.now.names
        (title_at search.table.now.names n)
    pub reaching : (n : Node) → IsNodeOf search.table.now.names n
        → reaches_cycle_at search.store.now n
        ≡ reaches_cycle (shapes search.web.now search.table.now) search.table.now.names
        (title_at search.table.now.names n)
    pub named : AreFileFlags (shapes search.web.now search.table.now) search.table.now
        search.out.now search.named_files
    pub uses_size : length search.first_uses.items ≡ length search.table.now.names
    pub first_uses : (id : ℕ) → id < length search.table.now.names
        → slice_index_or search.first_uses.items id 0
        ≡ first_by_number (resolve search.web.now.occurrences) counted.Uses
        search.web.now.occurrences id

  -- these names have all faults of all names, of each kind
  abbrev pub HaveTheFaults : List ℕ → Type 0
  HaveTheFaults names = (kind : FaultKind)
      → flat_map (fault_of_name search.web.now search.table.now search.out.now kind) names
      ≡ faults_of_names search.web.now search.table.now search.out.now kind
