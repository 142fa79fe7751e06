-- Tags, bytes and titles determine a shape.
use Rattle.std.proofs.Common.{rules}
use Rattle.std.proofs.Common.{◌≡◌, ◌↔◌, ◌∙◌, ℕ, List, [], ◌∷◌, ◌++◌, map, take, drop, length, refl, ap, sym}
use Rattle.std.specs.Prelude.{flat_map}
use Rattle.std.proofs.lemmas.List.{map-append}
use Rattle.tangle_bodies.specs.Shapes.{Kind, ShapeItem, Written, Mark, AllMacros, Use, NoUse, Shape}
use Rattle.tangle_bodies.specs.Shapes as kind
use Rattle.tangle_bodies.proofs.EachLemmas.{joins, seams}
use Rattle.tangle_bodies.specs.NodeBodies.{HoldsShape, HaveOneShape, body_items}
use Rattle.tangle_bodies.specs.declared.nodes.NodeBody.{NodeBody}
use Rattle.tangle_bodies.specs.Tags.{written_kind, item_tag, piece_end, item_bytes, shape_tags, shape_bytes}
use Rattle.tangle_bodies.specs.Shapes.{Named, Title, item_names, shape_titles}
use Rattle.tangle_scan.specs.declared.texts.ItemKind.{ItemKind}
use Rattle.tangle_scan.specs.declared.texts.ItemKind.TheVariants as tag
use Rattle.tangle_scan.specs.declared.texts.ItemTag.{ItemTag}

-- a shape with one more item at the front of its first piece
onto : ShapeItem → Shape → Shape
onto x [] = (x ∷ []) ∷ []
onto x (items ∷ pieces) = (x ∷ items) ∷ pieces

-- the use of the first of these
abbrev first_use : List Title → ShapeItem
first_use (Named name ∷ titles) = Use name
first_use titles = NoUse

-- the item with a tag, before the shape that the remaining bytes and titles give
item_from_tag : ItemKind → ℕ → List ℕ → List Title → (List ℕ → List Title → Shape) → Shape
item_from_tag tag.Word n bytes titles rest = onto (Written kind.Word (take n bytes)) (rest (drop n bytes) titles)
item_from_tag tag.Sign n bytes titles rest = onto (Written kind.Sign (take n bytes)) (rest (drop n bytes) titles)
item_from_tag tag.Quoted n bytes titles rest = onto (Written kind.Quoted (take n bytes)) (rest (drop n bytes) titles)
item_from_tag tag.QuoteBreak n bytes titles rest =
    onto (Written kind.QuoteBreak (take n bytes)) (rest (drop n bytes) titles)
item_from_tag tag.Verbatim n bytes titles rest = onto (Written kind.Verbatim (take n bytes)) (rest (drop n bytes) titles)
item_from_tag tag.AsciiConstant n bytes titles rest =
    onto (Written kind.AsciiConstant (take n bytes)) (rest (drop n bytes) titles)
item_from_tag tag.Blank n bytes titles rest = onto (Written kind.Blank (take n bytes)) (rest (drop n bytes) titles)
item_from_tag tag.LineEnd n bytes titles rest = onto (Written kind.LineEnd (take n bytes)) (rest (drop n bytes) titles)
item_from_tag tag.Mark n bytes titles rest = onto Mark (rest bytes titles)
item_from_tag tag.AllMacros n bytes titles rest = onto AllMacros (rest bytes titles)
item_from_tag tag.Use n bytes titles rest = onto (first_use titles) (rest bytes (drop 1 titles))
item_from_tag tag.NoUse n bytes titles rest = onto NoUse (rest bytes titles)
item_from_tag tag.PieceEnd n bytes titles rest = [] ∷ rest bytes titles
item_from_tag _ n bytes titles rest = rest bytes titles

shape_from_tags : List ItemTag → List ℕ → List Title → Shape
shape_from_tags [] bytes titles = []
shape_from_tags (first ∷ tags) bytes titles = item_from_tag first.kind first.size bytes titles (shape_from_tags tags)

written_from_tag : (k : Kind) (n : ℕ) (bytes : List ℕ) (titles : List Title) (rest : List ℕ → List Title → Shape)
    → item_from_tag (written_kind k) n bytes titles rest ≡ onto (Written k (take n bytes)) (rest (drop n bytes) titles)
unfolding item_from_tag
written_from_tag k n bytes titles rest = search rules

piece_from_tags : (items : List ShapeItem) (tags : List ItemTag) (bytes : List ℕ) (titles : List Title)
    → shape_from_tags (map item_tag items ++ piece_end ∷ tags)
    (flat_map item_bytes items ++ bytes) (map Named (flat_map item_names items) ++ titles)
    ≡ items ∷ shape_from_tags tags bytes titles
unfolding shape_from_tags item_from_tag onto
piece_from_tags [] tags bytes titles = refl
piece_from_tags (Written k written ∷ items) tags bytes titles =
    grind (joins, written_from_tag k (length written), seams written, piece_from_tags items tags bytes titles)
piece_from_tags (x ∷ items) tags bytes titles = ap (onto x) (piece_from_tags items tags bytes titles)

shape_from_its_tags : (shape : Shape)
    → shape_from_tags (shape_tags shape) (shape_bytes shape) (shape_titles shape) ≡ shape
unfolding shape_from_tags item_from_tag
shape_from_its_tags [] = refl
shape_from_its_tags (items ∷ pieces) = grind (joins, map-append Named, piece_from_tags items, shape_from_its_tags pieces)

pub same_by_tags : (s t : Shape)
    → shape_tags s ≡ shape_tags t → shape_bytes s ≡ shape_bytes t → shape_titles s ≡ shape_titles t → s ≡ t
same_by_tags s t tags bytes titles =
    sym (shape_from_its_tags s) ∙ (λ i. shape_from_tags (tags i) (bytes i) (titles i)) ∙ shape_from_its_tags t

-- the bodies of two nodes determine whether their shapes are equal
pub bodies_decide : (names other_names : List (List ℕ)) (body other : NodeBody) (shape other_shape : Shape)
    → HoldsShape names shape body → HoldsShape other_names other_shape other
    → (HaveOneShape names other_names (body_items body) (body_items other) ↔ (shape ≡ other_shape))
bodies_decide names other_names body other shape other_shape h k = search (rules, same_by_tags)
