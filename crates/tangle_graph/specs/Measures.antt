-- The weights and the depths of nodes, and which nodes are expandable.
use Rattle.std.specs.Prelude.{◌≡◌, ℕ, false, List, slice_index_or}
use Rattle.std.specs.Prelude.{Contains}
use Rattle.digraph.specs.Nodes.{Node}
use Rattle.tangle_bodies.specs.Nodes.{title_at}
use Rattle.tangle_bodies.specs.Shapes.{Shapes, Title}
pub use Rattle.tangle_bodies.specs.Flat.{greatest_by}
use Rattle.tangle_expansion.specs.Limits.{weight_of, depth_of}
use Rattle.tangle_bodies.specs.Nodes.{IsNodeOf}
use Rattle.tangle_graph.specs.Outputs.{is_expandable}
use Rattle.tangle_graph.specs.declared.measures.Measure.{Measure}

-- what holds of a node without a piece
abbrev pub no_piece_measure : Measure
no_piece_measure = record { weight = 0; depth = 0; is_expandable = false }

-- what is recorded of a node; where nothing is, the node counts as one without a piece
abbrev pub measure_at : List Measure → Node → Measure
measure_at measures node = slice_index_or measures node no_piece_measure

-- what holds of the node with this title
abbrev pub measure_of : Shapes → Title → Measure
measure_of shapes title = record {
  weight = weight_of shapes title;
  depth = depth_of shapes title;
  is_expandable = is_expandable shapes title;
}

-- what is recorded of each node holds of it
abbrev pub AreMeasures : Shapes → List (List ℕ) → List Measure → Type 0
AreMeasures shapes names measures = (node : Node) → IsNodeOf names node
    → measure_at measures node ≡ measure_of shapes (title_at names node)

-- what is recorded of these nodes holds of them
abbrev pub AreUsesMeasured : Shapes → List (List ℕ) → List Measure → List Node → Type 0
AreUsesMeasured shapes names measures uses = (node : Node) → Contains uses node
    → measure_at measures node ≡ measure_of shapes (title_at names node)
