-- The expansion of a node, its weight, and the depth of its uses.
use Rattle.std.specs.Prelude.{ℕ, ◌+◌, zero, suc, max, List, [], ◌∷◌, ◌++◌, length, map, sum_by}
use Rattle.tangle_files.specs.Bytes.{space}
use Rattle.tangle_bodies.specs.Shapes.{Title, Program, Named, ShapeItem, Written, Mark, Use, NoUse}
use Rattle.tangle_bodies.specs.Shapes.{Shape, Shapes, shape_names}
use Rattle.tangle_bodies.specs.Shapes as shape
use Rattle.tangle_bodies.specs.Tags.{shape_bytes, shape_tags}
use Rattle.tangle_scan.specs.declared.texts.ItemKind.{ItemKind}
use Rattle.tangle_scan.specs.declared.texts.ItemKind.TheVariants as tag
use Rattle.tangle_scan.specs.declared.texts.ItemTag.{ItemTag}

-- A symbol of an expansion: one byte; an opening, a mark or a closing, with the title of its node
-- and the number of the piece, and for a mark also the mark's number; or all macros. The opening mark
-- has the number 0.
pub data Symbol : Type 0 where
  Byte : ℕ → Symbol
  Opening : Title → ℕ → Symbol
  MarkOf : Title → ℕ → ℕ → Symbol
  Closing : Title → ℕ → Symbol
  AllMacros : Symbol

-- the number of marks after an item, where there are `marks` before it
abbrev pub marks_after_shape_item : ℕ → ShapeItem → ℕ
marks_after_shape_item marks Mark = marks + 1
marks_after_shape_item marks _ = marks

-- the symbols of an item of the piece with this number, after this number of marks; `used` gives
-- the symbols of names
abbrev pub item_flat : (List ℕ → List Symbol) → Title → ℕ → ℕ → ShapeItem → List Symbol
item_flat used title piece marks (Written kind bytes) = map Byte bytes
item_flat used title piece marks Mark = MarkOf title piece (marks + 1) ∷ []
item_flat used title piece marks shape.AllMacros = AllMacros ∷ []
item_flat used title piece marks (Use name) = Byte space ∷ used name
item_flat used title piece marks NoUse = Byte space ∷ []

-- the symbols of these items, and then the closing of the piece
abbrev pub items_flat : (List ℕ → List Symbol) → Title → ℕ → ℕ → List ShapeItem → List Symbol
items_flat used title piece marks [] = Closing title piece ∷ []
items_flat used title piece marks (item ∷ items) =
    item_flat used title piece marks item
    ++ items_flat used title piece (marks_after_shape_item marks item) items

-- the symbols of these pieces, the first of which has this number
abbrev pub pieces_flat : (List ℕ → List Symbol) → Title → ℕ → Shape → List Symbol
pieces_flat used title piece [] = []
pieces_flat used title piece (items ∷ pieces) =
    Opening title piece ∷ MarkOf title piece 0 ∷ items_flat used title piece 0 items
    ++ pieces_flat used title (piece + 1) pieces

-- the symbols of the node with a title, where uses are followed to less than this depth
abbrev pub flat : ℕ → Shapes → Title → List Symbol
flat zero shapes title = []
flat (suc fuel) shapes title =
    pieces_flat (λ name. flat fuel shapes (Named name)) title 0 (shapes title)

-- the symbols of a tag of this kind besides its bytes, and besides those of a used name
abbrev pub own_symbols : Title → ℕ → ℕ → ItemKind → List Symbol
own_symbols title piece marks tag.PieceStart = Opening title piece ∷ MarkOf title piece 0 ∷ []
own_symbols title piece marks tag.Mark = MarkOf title piece (marks + 1) ∷ []
own_symbols title piece marks tag.AllMacros = AllMacros ∷ []
own_symbols title piece marks tag.Use = Byte space ∷ []
own_symbols title piece marks tag.NoUse = Byte space ∷ []
own_symbols title piece marks tag.PieceEnd = Closing title piece ∷ []
own_symbols title piece marks _ = []

-- the number of these for tags
abbrev pub own_counts : List ItemTag → ℕ
own_counts [] = 0
own_counts (t ∷ tags) = length (own_symbols Program 0 0 t.kind) + own_counts tags

-- The weight: the number of symbols. It is that of the node's own symbols, and the weights of the
-- names that it uses.

abbrev pub own_weight : Shape → ℕ
own_weight shape = length (shape_bytes shape) + own_counts (shape_tags shape)

abbrev pub pieces_weight : (List ℕ → ℕ) → Shape → ℕ
pieces_weight used shape = own_weight shape + sum_by used (shape_names shape)

abbrev pub weight : ℕ → Shapes → Title → ℕ
weight fuel shapes title = length (flat fuel shapes title)

-- The depth: 0 without a piece, else one more than the greatest depth among the used names.

-- the greatest of the values of these items, or 0 if there is none
abbrev pub greatest_by : {X : Type 0} → (X → ℕ) → List X → ℕ
greatest_by f [] = 0
greatest_by f (x ∷ xs) = max (f x) (greatest_by f xs)

abbrev pub pieces_depth : (List ℕ → ℕ) → Shape → ℕ
pieces_depth used [] = 0
pieces_depth used (items ∷ pieces) = suc (greatest_by used (shape_names (items ∷ pieces)))

abbrev pub depth : ℕ → Shapes → Title → ℕ
depth zero shapes title = 0
depth (suc fuel) shapes title = pieces_depth (λ name. depth fuel shapes (Named name)) (shapes title)
