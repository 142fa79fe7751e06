-- The shape of a node of a store, and whether the store records a piece of the node.
use Rattle.std.proofs.Common.{rules}
use Rattle.std.proofs.Common.{◌≡◌, Bool, not, []}
use Rattle.std.specs.Bool.{Decides}
use Rattle.std.proofs.lemmas.List.{get_or_past}
use Rattle.digraph.specs.Nodes.{Node}
use Rattle.tangle_bodies.specs.Shapes.{Shape, Shapes}
use Rattle.tangle_graph.specs.Outputs.{shape_has_piece}
use Rattle.tangle_graph.specs.Stores.{StoreRead, IsStoreOf, has_piece_at, shape_in_store}
use Rattle.tangle_graph.proofs.NodeMeasureLemmas.{piece_by_measure}

module _ (shapes : Shapes) (store : StoreRead) where
  pub has_piece_in : IsStoreOf shapes store → (a : Node)
      → has_piece_at store a ≡ shape_has_piece (shape_in_store store shapes a)
  has_piece_in is a = search (rules, get_or_past, piece_by_measure)

-- a shape without a piece is the empty one
pub without_piece : (s : Shape) (b : Bool) → b ≡ shape_has_piece s → Decides (not b) (s ≡ [])
without_piece s b e = search rules
