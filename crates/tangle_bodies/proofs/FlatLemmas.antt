-- A body that determines a shape has the symbols of the shape.
use Rattle.std.proofs.Common.{arith}
use Rattle.std.proofs.Common.{rules}
use Rattle.std.proofs.lemmas.Bool.Decides.{nat_tests}
use Rattle.std.proofs.Common.{◌≡◌, ◌∙◌, ℕ, ◌+◌, zero, suc, List, [], ◌∷◌, ◌++◌, map, take, drop}
use Rattle.std.proofs.Common.{length, refl, ap}
use Rattle.std.specs.Prelude.{flat_map}
use Rattle.std.proofs.lemmas.List.{map-append, take-append-drop, length-take-le}
use Rattle.std.proofs.lemmas.Simd.{map-map}
use Rattle.tangle_text.specs.Runs.{part_more, parts_of}
use Rattle.tangle_text.proofs.PartLemmas.{part-fits}
use Rattle.tangle_bodies.specs.Shapes.{Title, Named, Kind, ShapeItem, Written, Shape}
use Rattle.tangle_bodies.specs.Flat.{Symbol, Byte, items_flat, marks_after_shape_item}
use Rattle.tangle_bodies.specs.Flat.{pieces_flat}
use Rattle.tangle_bodies.proofs.EachLemmas.{joins, seams}
use Rattle.tangle_bodies.specs.Meaning.{next_piece, next_mark, with_used, tags_flat, node_flat}
use Rattle.tangle_bodies.specs.Flat.{own_symbols}
use Rattle.tangle_bodies.specs.NodeBodies.{HoldsShape, body_uses}
use Rattle.tangle_bodies.specs.Nodes.{titles_at}
use Rattle.tangle_bodies.specs.Tags.{item_tag, item_bytes, piece_end, shape_tags, shape_bytes}
use Rattle.tangle_bodies.specs.Shapes.{item_names, shape_names}
use Rattle.tangle_scan.specs.UnfoldedTags.{part_tag, run_tags, kind_tags, unfolded_tags}
use Rattle.tangle_bodies.specs.declared.nodes.NodeBody.{NodeBody}
use Rattle.tangle_scan.specs.declared.texts.ItemKind.{ItemKind}
use Rattle.tangle_scan.specs.declared.texts.ItemKind.TheVariants as tag
use Rattle.tangle_scan.specs.declared.texts.ItemTag.{ItemTag}
use Rattle.tangle_scan.proofs.lemmas.RunTags.{part_size}

module _ (node : Title) where
  -- the parts of a run have its bytes

  parts_flat : (piece marks line column k : ℕ) (bs more : List ℕ) (tags : List ItemTag) (used : List (List Symbol))
      → tags_flat node piece marks (drop k bs ++ more) (map part_tag (parts_of line column k bs) ++ tags) used
      ≡ map Byte (drop k bs) ++ tags_flat node piece marks more tags used
  parts_flat piece marks line column zero [] more tags used = refl
  parts_flat piece marks line column (suc k) [] more tags used = refl
  parts_flat piece marks line column (suc k) (b ∷ bs) more tags used =
      parts_flat piece marks line (column + 1) k bs more tags used
  parts_flat piece marks line column zero (b ∷ bs) more tags used =
      let k = part_more b bs in
      let part = b ∷ take k bs in
      let fits = length-take-le k bs (part-fits b bs) in
      let sizes = part_size line column b bs in
      let rest = parts_flat piece marks line (column + 1) k bs more tags used in
      grind (joins, map-append {A = ℕ} {B = Symbol}, take-append-drop k bs, seams part, fits, sizes, rest)

  -- the symbols are those of the unfolded tags

  kind_flat : (piece marks : ℕ) (t : ItemTag) (k : ItemKind) (bytes : List ℕ) (tags : List ItemTag)
      (used : List (List Symbol)) → t.kind ≡ k
      → tags_flat node piece marks bytes (kind_tags k t (take t.size bytes) ++ tags) used
      ≡ tags_flat node piece marks bytes (t ∷ tags) used
  unfolding run_tags
  kind_flat piece marks t tag.Run bytes tags used is =
      grind (arith, nat_tests, take-append-drop t.size bytes, parts_flat piece marks 0 0 0 (take t.size bytes))
  kind_flat piece marks t _ bytes tags used is = refl

  unfolded_flat : (piece marks : ℕ) (tags : List ItemTag) (bytes : List ℕ) (used : List (List Symbol))
      → tags_flat node piece marks bytes (unfolded_tags tags bytes) used ≡ tags_flat node piece marks bytes tags used
  unfolded_flat piece marks [] bytes used = refl
  unfolded_flat piece marks (t ∷ tags) bytes used =
      kind_flat piece marks t t.kind bytes (unfolded_tags tags (drop t.size bytes)) used refl
      ∙ ap (λ rest. map Byte (take t.size bytes) ++ with_used t.kind (own_symbols node piece marks t.kind) used rest)
      (λ i us. unfolded_flat (next_piece piece t.kind) (next_mark marks t.kind) tags (drop t.size bytes) us i)

  -- the symbols of a shape

  written_flat : (piece marks : ℕ) (k : Kind) (written bytes : List ℕ) (tags : List ItemTag) (used : List (List Symbol))
      → tags_flat node piece marks bytes (item_tag (Written k written) ∷ tags) used
      ≡ map Byte (take (length written) bytes) ++ tags_flat node piece marks (drop (length written) bytes) tags used
  written_flat piece marks k written bytes tags used = search rules

  module _ (symbols : List ℕ → List Symbol) where
    items_shaped : (piece marks : ℕ) (items : List ShapeItem) (bytes : List ℕ) (tags : List ItemTag)
        (names : List (List ℕ))
        → tags_flat node piece marks (flat_map item_bytes items ++ bytes) (map item_tag items ++ piece_end ∷ tags)
        (map symbols (flat_map item_names items ++ names))
        ≡ items_flat symbols node piece marks items
        ++ tags_flat node (piece + 1) 0 bytes tags (map symbols names)
    items_shaped piece marks [] bytes tags names = refl
    items_shaped piece marks (Written k written ∷ items) bytes tags names =
        let rest = items_shaped piece marks items bytes tags names in
        grind (joins, written_flat piece marks k written, seams written, rest)
    items_shaped piece marks (x ∷ items) bytes tags names =
        grind (joins, items_shaped piece (marks_after_shape_item marks x) items bytes tags names)

    pub shape_flat : (piece marks : ℕ) (shape : Shape)
        → tags_flat node piece marks (shape_bytes shape) (shape_tags shape) (map symbols (shape_names shape))
        ≡ pieces_flat symbols node piece shape
    shape_flat piece marks [] = refl
    shape_flat piece marks (items ∷ pieces) =
        let first = items_shaped piece 0 items (shape_bytes pieces) (shape_tags pieces) (shape_names pieces) in
        grind (joins, first, shape_flat (piece + 1) 0 pieces)

-- the symbols of a body, where each node that it uses has the symbols that its title has in the shape
pub held_flat : (node : Title) (names : List (List ℕ)) (shape : Shape) (body : NodeBody)
    (symbols : Title → List Symbol) (used : List (List Symbol)) → HoldsShape names shape body
    → used ≡ map symbols (titles_at names (body_uses body))
    → node_flat node body.items.value used ≡ pieces_flat (λ name. symbols (Named name)) node 0 shape
held_flat node names shape body symbols used h same =
    let named = same ∙ ap (map symbols) h.uses ∙ map-map symbols Named (shape_names shape) in
    rw named (search (rules, unfolded_flat, shape_flat))
