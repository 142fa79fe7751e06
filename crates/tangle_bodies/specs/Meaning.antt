-- The symbols of the items of a node, with those of the used names in the places of the uses.
use Rattle.std.specs.Prelude.{ℕ, ◌+◌, List, [], ◌∷◌, ◌++◌, map, flat_map, take, drop}
use Rattle.tangle_files.specs.Bytes.{space}
use Rattle.tangle_bodies.specs.Shapes.{Title}
use Rattle.tangle_bodies.specs.Flat.{Symbol, Byte, own_symbols}
use Rattle.tangle_bodies.specs.declared.nodes.NodeItems.{NodeItems}
use Rattle.tangle_scan.specs.declared.texts.ItemKind.{ItemKind}
use Rattle.tangle_scan.specs.declared.texts.ItemKind.TheVariants as tag
use Rattle.tangle_scan.specs.declared.texts.ItemTag.{ItemTag}

-- the numbers of pieces and marks after a tag of this kind; the opening mark is not counted

abbrev pub next_piece : ℕ → ItemKind → ℕ
next_piece piece tag.PieceEnd = piece + 1
next_piece piece _ = piece

abbrev pub next_mark : ℕ → ItemKind → ℕ
next_mark marks tag.PieceStart = 0
next_mark marks tag.PieceEnd = 0
next_mark marks tag.Mark = marks + 1
next_mark marks _ = marks

-- These symbols of a tag of this kind, and then the rest. At a use, those of the next used name are
-- between; there is nothing at a use for which there are none, and an expansion that is made has some
-- for each use.
abbrev pub with_used : ItemKind → List Symbol → List (List Symbol)
    → (List (List Symbol) → List Symbol) → List Symbol
with_used tag.Use own [] rest = []
with_used tag.Use own (symbols ∷ used) rest = own ++ (symbols ++ rest used)
with_used _ own used rest = own ++ rest used

-- what is shared for no use comes at the end; no expansion that is made has such
abbrev pub left_over : List (List Symbol) → List Symbol
left_over used = flat_map (λ symbols. Byte space ∷ symbols) used

-- The symbols of the remaining tags of a node: `piece` pieces are before the current one, `marks`
-- marks were in it, and these bytes and symbols of used names remain.
abbrev pub tags_flat : Title → ℕ → ℕ → List ℕ → List ItemTag → List (List Symbol) → List Symbol
tags_flat title piece marks bytes [] used = left_over used
tags_flat title piece marks bytes (t ∷ tags) used =
    map Byte (take t.size bytes)
    ++ with_used t.kind (own_symbols title piece marks t.kind) used
    (tags_flat title (next_piece piece t.kind) (next_mark marks t.kind) (drop t.size bytes) tags)

-- the symbols of a node with these items, where the names that it uses have these ones, in the
-- order of the uses
abbrev pub node_flat : Title → NodeItems → List (List Symbol) → List Symbol
node_flat title items used = tags_flat title 0 0 items.bytes.items items.tags.items used
