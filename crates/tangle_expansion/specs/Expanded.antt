-- An expansion, and what it gives in a web.
use Rattle.std.specs.Prelude.{ℕ, suc, max, List, [], ◌∷◌, Option, unwrap_or}
use Rattle.tangle_bodies.specs.Flat.{Symbol}
use Rattle.tangle_bodies.specs.Meaning.{tags_flat}
use Rattle.tangle_bodies.specs.Shapes.{Title, Shapes, shape_titles}
use Rattle.tangle_bodies.specs.declared.nodes.NodeItems.{NodeItems}
use Rattle.tangle_scan.specs.declared.texts.ItemTag.{ItemTag}

-- the items of a node, by their tags and their bytes
pub record ItemsOfNode : Type 0 where
  pub tags : List ItemTag
  pub bytes : List ℕ

-- What is shared for the uses of a node, in their order: the items of the used node, and what is
-- shared for its own uses. A node without a piece has no items.
pub data Shared : Type 0 where
  End : Shared
  Next : ItemsOfNode → Shared → Shared → Shared

-- An expansion. It has no numbers of nodes, since it may be kept while these change: the web for
-- which it is written says which nodes are used.
pub record Expanded : Type 0 where
  pub items : ItemsOfNode
  pub used : Shared

-- the expansion of a node without a piece
abbrev pub nothing : Expanded
nothing = record { items = record { tags = []; bytes = [] }; used = End }

abbrev pub shared_of : List (Option Expanded) → Shared
shared_of [] = End
shared_of (shared ∷ used) =
    Next (unwrap_or shared nothing).items (unwrap_or shared nothing).used (shared_of used)

-- the expansion of a node with these items, where these are shared for its uses
abbrev pub expanded : NodeItems → List (Option Expanded) → Expanded
expanded items used = record {
  items = record { tags = items.tags.items; bytes = items.bytes.items };
  used = shared_of used;
}

-- how deep used names are in what is shared
abbrev pub shared_depth : Shared → ℕ
shared_depth End = 0
shared_depth (Next items used rest) = max (suc (shared_depth used)) (shared_depth rest)

-- the titles of what each node uses: one for each use that resolves to a name
abbrev pub UsedTitles : Type 0
UsedTitles = Title → List Title

abbrev pub used_titles : Shapes → UsedTitles
used_titles shapes title = shape_titles (shapes title)

module _ (uses : UsedTitles) where
  -- the symbols of what is shared for the uses of nodes with these titles
  abbrev pub shared_symbols : Shared → List Title → List (List Symbol)
  shared_symbols (Next items used rest) (title ∷ titles) =
      tags_flat title 0 0 items.bytes items.tags
      (shared_symbols used (uses title)) ∷ shared_symbols rest titles
  shared_symbols _ _ = []

  -- The symbols that an expansion gives, with these titles for its uses, to the node with this
  -- title. If there is no expansion, there are none.
  abbrev pub symbols_of : Title → Expanded → List Symbol
  symbols_of title e =
      tags_flat title 0 0 e.items.bytes e.items.tags (shared_symbols e.used (uses title))

  abbrev pub symbols_if_any : Title → Option Expanded → List Symbol
  symbols_if_any title e = symbols_of title (unwrap_or e nothing)
