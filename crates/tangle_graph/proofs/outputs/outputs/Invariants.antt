use Rattle.std.proofs.Common.{◌≡◌, ◌++◌, map, take, filter}
use Rattle.tangle_graph.specs.Outputs.{main_file, named_file, is_written}
use Rattle.tangle_graph.proofs.outputs.outputs.Given as goal

abbrev pub invariant-loop-id : goal.invariant-loop-id
invariant-loop-id l =
    l.files.items
    ≡ main_file l.web l.table l.out
    ++ map (named_file l.table) (filter (is_written l.web l.table l.out) (take l.id-index l.id-items))
