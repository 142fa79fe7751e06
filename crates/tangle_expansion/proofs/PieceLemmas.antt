-- The bytes of a node are those of its pieces.
use Rattle.std.proofs.Common.{rules}
use Rattle.std.proofs.Common.{◌≡◌, ℕ, ◌+◌, List, [], ◌∷◌, ◌++◌, map, drop, refl, ap, append-nil}
use Rattle.std.proofs.lemmas.Grind.{flat_map-append}
use Rattle.std.specs.Prelude.{flat_map, slice_index_or}
use Rattle.tangle_files.specs.Bytes.{space, line_feed}
use Rattle.tangle_lines.specs.declared.origin.Origin.{Origin}
use Rattle.tangle_scan.specs.declared.items.Item.{Item}
use Rattle.tangle_scan.specs.declared.items.Item.TheVariants as item
use Rattle.tangle_scan.specs.ItemBytes.{bytes_in}
use Rattle.tangle_scan.specs.Web.{PieceRead}
use Rattle.tangle_names.specs.declared.Resolved.{Resolved}
use Rattle.tangle_names.specs.declared.Resolved.TheVariants.{Name}
use Rattle.tangle_names.specs.NameTable.{TableRead}
use Rattle.tangle_bodies.specs.Shapes.{Title, ShapeItem}
use Rattle.tangle_bodies.specs.Flat.{Symbol, MarkOf, items_flat, pieces_flat}
use Rattle.tangle_bodies.specs.WebShapes.{shape_item, shape_of, use_of}
use Rattle.tangle_expansion.specs.Numbers.{NumbersRead, symbol_bytes, closing_bytes, expansion_bytes}
use Rattle.tangle_scan.specs.Texts.{item_origins}
use Rattle.tangle_expansion.specs.Numbers.{no_origin, no_numbers, node_numbers, numbers_at, numbers_of_piece}
use Rattle.tangle_expansion.specs.Numbers.{origin_of_mark}
use Rattle.tangle_expansion.specs.PieceBytes.{bytes_after_mark, items_bytes, piece_bytes, resolved_bytes}
use Rattle.tangle_bodies.proofs.EachLemmas.{joins}
use Rattle.tangle_expansion.proofs.LineTruth.{next_of}
use Rattle.tangle_expansion.proofs.WrittenLemmas.{bytes_then}

module _ (numbers : NumbersRead) where
  mark_then : (node : Title) (piece mark : ℕ) (origin : Origin) (rest : List Symbol)
      → origin_of_mark numbers node piece mark ≡ origin
      → expansion_bytes numbers (MarkOf node piece mark ∷ rest)
      ≡ (line_feed ∷ bytes_after_mark numbers origin) ++ expansion_bytes numbers rest
  mark_then node piece mark origin rest is = search rules

  module _ (texts : List (List ℕ)) (table : TableRead) (used : List ℕ → List Symbol) (node : Title) where
    use_then : (piece marks : ℕ) (items : List ShapeItem) (r : Resolved)
        → expansion_bytes numbers (items_flat used node piece marks (use_of table r ∷ items))
        ≡ (space ∷ resolved_bytes numbers table used r)
        ++ expansion_bytes numbers (items_flat used node piece marks items)
    use_then piece marks items (Name id) = ap (λ l. space ∷ l)
        (flat_map-append (symbol_bytes numbers) (used (slice_index_or table.names id [])) (items_flat used node piece marks items))
    use_then piece marks items _ = refl

    -- the items of a piece, after this number of its marks
    items_written : (piece marks : ℕ) (items : List Item)
        → drop (marks + 1) (numbers_at numbers node piece).origins ≡ flat_map item_origins items
        → expansion_bytes numbers (items_flat used node piece marks (map (shape_item texts table) items))
        ≡ items_bytes numbers table used texts items ++ closing_bytes (numbers_at numbers node piece).section
    items_written piece marks [] origins = append-nil (closing_bytes (numbers_at numbers node piece).section)
    items_written piece marks (item.LineMark origin ∷ items) origins =
        let next = next_of no_origin _ (marks + 1) origin (flat_map item_origins items) origins in
        grind (joins, mark_then node piece (marks + 1) origin, next.0, items_written piece (marks + 1) items next.1)
    items_written piece marks (x ∷ items) origins =
        let bytes = bytes_then numbers (bytes_in texts x) in
        grind (joins, bytes, use_then piece marks, items_written piece marks items origins)

    -- the pieces of a node, from the one with this number on
    pub pieces_written : (piece : ℕ) (pieces : List PieceRead)
        → drop piece (node_numbers numbers node) ≡ map numbers_of_piece pieces
        → expansion_bytes numbers
        (pieces_flat used node piece (shape_of texts table pieces))
        ≡ flat_map (piece_bytes numbers table used texts) pieces
    pieces_written piece [] are = refl
    pieces_written piece (p ∷ pieces) are =
        let next = next_of no_numbers _ piece (numbers_of_piece p) (map numbers_of_piece pieces) are in
        let marks : drop (0 + 1) (numbers_at numbers node piece).origins ≡ flat_map item_origins p.items =
        ap (λ n. drop 1 n.origins) next.0 in
        let rest = pieces_written (piece + 1) pieces next.1 in
        grind (joins, next.0, flat_map-append (symbol_bytes numbers), items_written piece 0 p.items marks, rest)
