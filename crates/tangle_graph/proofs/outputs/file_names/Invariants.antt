use Rattle.std.proofs.Common.{◌≡◌, flat_map}
use Rattle.std.specs.List.{range_with_len}
use Rattle.tangle_graph.specs.Outputs.{first_file_name}
use Rattle.tangle_graph.proofs.outputs.file_names.Given as goal

abbrev pub invariant-loop-occurrence : goal.invariant-loop-occurrence
invariant-loop-occurrence l = l.names.items ≡ flat_map (first_file_name l.table) (range_with_len 0 l.occurrence)
