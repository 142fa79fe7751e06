use Rattle.std.proofs.Common.{◌≡◌, map}
use Rattle.std.specs.List.{range_with_len}
use Rattle.tangle_bodies.specs.Shapes.{Shapes}
use Rattle.tangle_graph.specs.Measures.{AreMeasures}
use Rattle.tangle_graph.specs.NamedFiles.{HaveForms, flags_of}
use Rattle.tangle_graph.proofs.named_files.NamedFiles.find.Given as goal

abbrev pub invariant-loop-id : goal.invariant-loop-id
invariant-loop-id l = (shapes : Shapes) → AreMeasures shapes l.table.names l.measures
    → HaveForms shapes l.table l.out l.id l.forms.keys
    × (l.flags.items ≡ map (flags_of shapes l.table l.out) (range_with_len 0 l.id))
