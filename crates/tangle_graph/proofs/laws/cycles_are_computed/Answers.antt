use Rattle.std.proofs.Common.{refl}
use Rattle.tangle_names.specs.NameTable.{table_of}
use Rattle.tangle_graph.proofs.CycleLemmas.{contains_computed, cycle_computed}
use Rattle.tangle_graph.proofs.laws.cycles_are_computed.Goals as goal

pub returns : goal.returns
returns c = record {
  contains_itself = λ web. contains_computed web (table_of web) refl;
  reaches_cycle = λ web. cycle_computed web (table_of web) refl;
}
