-- What a row of pieces, a weight and a depth say of a node.
use Rattle.std.proofs.Common.{rules}
use Rattle.std.proofs.Common.{◌≡◌, ◌≢◌, ◌<◌, ◌+◌, ◌↔◌, ◌&&◌, ◌==◌, ℕ, true, false, List, [], ◌∷◌}
use Rattle.std.proofs.Common.{not, filter, get_or, refl, arith, length}
use Rattle.std.specs.Prelude.{nat_lt, nat_le}
use Rattle.std.proofs.lemmas.Bool.Decides.{nat_tests}
use Rattle.std.proofs.lemmas.Slice.Eq.{bytes_eq-Decides}
use Rattle.tangle_bodies.specs.Shapes.{Title, Named, Shape, Shapes}
use Rattle.tangle_bodies.specs.Flat.{weight, depth}
use Rattle.tangle_expansion.specs.Limits.{levels, heaviest, weight_cap, weight_of, depth_of, IsExpandableNode}
use Rattle.tangle_scan.specs.Web.{PieceRead}
use Rattle.tangle_names.specs.NameTable.{TableRead}
use Rattle.tangle_bodies.specs.WebShapes.{is_piece_of}
use Rattle.tangle_bodies.specs.WebShapes.{ResolvesInside, shapes}
use Rattle.tangle_graph.specs.Outputs.{shape_has_piece, is_expandable}
use Rattle.tangle_graph.specs.Measures.{measure_of}
use Rattle.tangle_graph.specs.declared.measures.Measure.{Measure}
use Rattle.tangle_graph.proofs.MeasureLemmas.{weight-settles}

-- Whether a node is expandable, by its capped weight and depth.

weight_same : (shapes : Shapes) (node : Title)
    → depth levels shapes node < levels → weight weight_cap shapes node ≡ weight levels shapes node
unfolding levels weight_cap
weight_same shapes node h = weight-settles 1001 16776216 shapes node h

one_more : weight_cap ≡ heaviest + 1
unfolding weight_cap heaviest
one_more = refl

pub no_pieces : (s : Shape) → shape_has_piece s ≡ false → s ≡ []
no_pieces s e = search rules

-- the test of a node decides the property
pub expandable_is : (shapes : Shapes) (node : Title) → (is_expandable shapes node ≡ true) ↔ IsExpandableNode shapes node
expandable_is shapes node = search rules

-- a shape is empty if the row of pieces is
pub piece_of_row : (row : List ℕ) (s : Shape) → length s ≡ length row → (not (length row == 0) ≡ true) ↔ (s ≢ [])
piece_of_row [] [] e = grind (arith, nat_tests)
piece_of_row (k ∷ row) (x ∷ s) e = grind (arith, nat_tests)
piece_of_row row s e = absurd (omega arith)

-- the test of a capped weight and depth gives whether the node is expandable
pub expandable_by_limits : (shapes : Shapes) (node : Title) (w d : ℕ)
    → shape_has_piece (shapes node) ≡ true → w ≡ weight_of shapes node → d ≡ depth_of shapes node
    → (nat_lt d levels && nat_le w heaviest) ≡ is_expandable shapes node
expandable_by_limits shapes node w d has weighed measured = search (rules, weight_same, one_more)

-- the depth that is recorded of a node says whether it has a piece
pub piece_by_measure : (shapes : Shapes) (node : Title) (m : Measure) → m ≡ measure_of shapes node
    → nat_lt 0 m.depth ≡ shape_has_piece (shapes node)
unfolding levels
piece_by_measure shapes node m e = search rules

-- a name with a piece is in the table
module _ (table : TableRead) (inside : ResolvesInside table) (name : List ℕ) where
  abbrev IsThere : Type 0
  IsThere = (id : ℕ) × (id < length table.names) × (get_or table.names id [] ≡ name)

  pub there : (pieces : List PieceRead) → ((e : filter (is_piece_of table (Named name)) pieces ≡ []) → ⊥) → IsThere
  there [] h = absurd (h refl)
  there (p ∷ pieces) h = grind (arith, nat_tests, there pieces, bytes_eq-Decides)
