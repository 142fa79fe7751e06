-- The weight of a node is that of its own symbols, and the weights of the names that it uses.
use Rattle.std.proofs.Common.{rules}
use Rattle.std.proofs.Common.{◌≡◌, ℕ, ◌+◌, suc, List, [], ◌∷◌, ◌++◌, map, length, refl, arith, length-append}
use Rattle.std.specs.Prelude.{sum_by, flat_map}
use Rattle.std.proofs.lemmas.List.{length-map}
use Rattle.std.proofs.lemmas.List.Sums.{sum_by-append}
use Rattle.tangle_bodies.specs.Shapes.{Title, Program, Named, ShapeItem, Shape, Shapes, item_names, shape_names}
use Rattle.tangle_bodies.specs.Tags.{item_bytes, item_tag, piece_end, shape_bytes, shape_tags}
use Rattle.tangle_bodies.specs.Flat.{Symbol, marks_after_shape_item, item_flat, items_flat, pieces_flat, flat}
use Rattle.tangle_bodies.specs.Flat.{own_symbols, own_counts, pieces_weight, weight}
use Rattle.tangle_bodies.proofs.CountLemmas.{own_counts-append}
use Rattle.tangle_bodies.proofs.EachLemmas.{joins}

module _ (used : List ℕ → List Symbol) (node : Title) where
  abbrev used_weight : List ℕ → ℕ
  used_weight name = length (used name)

  item_length : (piece marks : ℕ) (item : ShapeItem)
      → length (item_flat used node piece marks item)
      ≡ length (item_bytes item) + length (own_symbols Program 0 0 (item_tag item).kind)
      + sum_by used_weight (item_names item)
  item_length piece marks item = search (rules, length-map)

  items_length : (piece marks : ℕ) (items : List ShapeItem)
      → length (items_flat used node piece marks items)
      ≡ length (flat_map item_bytes items) + own_counts (map item_tag items ++ piece_end ∷ [])
      + sum_by used_weight (flat_map item_names items)
  items_length piece marks [] = refl
  items_length piece marks (item ∷ items) =
      let rest = items_length piece (marks_after_shape_item marks item) items in
      grind (joins, item_length piece marks item, rest, length-append, sum_by-append)

  pub pieces_length : (piece : ℕ) (pieces : Shape)
      → length (pieces_flat used node piece pieces) ≡ pieces_weight used_weight pieces
  pieces_length piece [] = refl
  pieces_length piece (items ∷ pieces) =
      let first = items_length piece 0 items in
      let rest = pieces_length (piece + 1) pieces in
      let symbols = length-append (items_flat used node piece 0 items) (pieces_flat used node (piece + 1) pieces) in
      let bytes = length-append (flat_map item_bytes items) (shape_bytes pieces) in
      let counts = own_counts-append (map item_tag items ++ piece_end ∷ []) (shape_tags pieces) in
      omega (arith, sum_by-append used_weight (flat_map item_names items) (shape_names pieces))

pub weight-suc : (fuel : ℕ) (shapes : Shapes) (node : Title)
    → weight (suc fuel) shapes node ≡ pieces_weight (λ name. weight fuel shapes (Named name)) (shapes node)
weight-suc fuel shapes node = pieces_length (λ name. flat fuel shapes (Named name)) node 0 (shapes node)
