-- The pieces of a node are added one after another.
use Rattle.std.proofs.Common.{◌≡◌, ◌∙◌, ℕ, List, [], ◌∷◌, ◌++◌, map, length, refl, ap, append-nil}
use Rattle.std.proofs.lemmas.List.{map-append}
use Rattle.std.proofs.lemmas.Grind.{flat_map-append}
use Rattle.tangle_scan.specs.Texts.{TextRead, IsTextOf, tag_of}
use Rattle.tangle_scan.specs.UnfoldedTags.{StandFor, tag_sizes}
use Rattle.tangle_scan.specs.Web.{PieceRead}
use Rattle.tangle_scan.proofs.lemmas.TextLemmas.{stand_append, stand_one}
use Rattle.tangle_names.specs.NameTable.{TableRead}
use Rattle.tangle_bodies.specs.ItemTags.{resolved_tags}
use Rattle.tangle_bodies.specs.NodeBodies.{ItemsRead, AreItemsOf, with_piece}
use Rattle.tangle_bodies.specs.Tags.{item_tag, piece_start, piece_end}
use Rattle.tangle_bodies.specs.WebShapes.{shape_item}
use Rattle.tangle_bodies.proofs.HeldLemmas.{bytes_held, tags_held, uses_held}
use Rattle.tangle_bodies.proofs.ResolvedLemmas.{stand-resolved}

module _ (texts : List (List ℕ)) (table : TableRead) where
  -- these are the items of these pieces, and their tags have all of their bytes
  pub record AreMade (pieces : List PieceRead) (items : ItemsRead) : Type 0 where
    pub made : AreItemsOf texts table pieces items
    pub sizes : tag_sizes items.tags ≡ length items.bytes

  -- the tags of a piece, with its borders
  piece_stands : (piece : PieceRead) (text : TextRead) → IsTextOf texts piece.items text
      → StandFor (piece_start ∷ resolved_tags table text.tags text.uses ++ piece_end ∷ []) text.bytes
      (piece_start ∷ map item_tag (map (shape_item texts table) piece.items) ++ piece_end ∷ [])
  piece_stands piece text h =
      let items = stand-resolved table text.tags text.bytes _ text.uses h.tags in
      let held = ap (resolved_tags table (map (tag_of texts) piece.items)) h.uses ∙ tags_held texts table piece.items in
      rw (append-nil text.bytes) at
      (stand_append (piece_start ∷ []) _ [] _ (piece_start ∷ []) _ (stand_one piece_start [] refl)
      (stand_append (resolved_tags table text.tags text.uses) (piece_end ∷ []) text.bytes [] _ (piece_end ∷ [])
      (rw held at items) (stand_one piece_end [] refl)))

  -- one more piece at the end
  pub piece_added : (pieces more : List PieceRead) (old next : ItemsRead) (piece : PieceRead) (text : TextRead)
      → more ≡ pieces ++ piece ∷ [] → AreMade pieces old → IsTextOf texts piece.items text
      → next ≡ with_piece table old text → AreMade more next
  piece_added pieces more old next piece text added are is made =
      let stands = stand_append old.tags _ old.bytes text.bytes _ _
      (record { are = are.made.tags; sizes = are.sizes }) (piece_stands piece text is) in
      let bytes = bytes_held texts table piece.items in
      rw (added, made) (record {
        made = record {
          tags = simp (map-append, flat_map-append, append-nil) stands.are;
          bytes = simp (map-append, flat_map-append, append-nil) (cc (are.made.bytes, is.bytes, bytes));
          uses = simp (flat_map-append, append-nil) (cc (are.made.uses, is.uses, uses_held texts table piece.items));
        };
        sizes = stands.sizes;
      })
