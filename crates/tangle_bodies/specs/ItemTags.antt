-- What the uses of items resolve to: their tags, and the nodes that they use.
use Rattle.std.specs.Prelude.{ℕ, List, [], ◌∷◌, flat_map, Option, Some, None, option_to_list}
use Rattle.digraph.specs.Nodes.{Node}
use Rattle.tangle_scan.specs.declared.items.Item.{Item}
use Rattle.tangle_scan.specs.declared.items.Item.TheVariants as item
use Rattle.tangle_scan.specs.declared.texts.ItemKind.{ItemKind}
use Rattle.tangle_scan.specs.declared.texts.ItemKind.TheVariants as tag
use Rattle.tangle_scan.specs.declared.texts.ItemTag.{ItemTag}
use Rattle.tangle_scan.specs.Web.{PieceRead}
use Rattle.tangle_names.specs.NameTable.{TableRead}
use Rattle.tangle_bodies.specs.Nodes.{node_of_occurrence}

-- the kind of the tag of a use, by the node that it means
abbrev pub use_kind : Option Node → ItemKind
use_kind (Some node) = tag.Use
use_kind None = tag.NoUse

module _ (table : TableRead) where
  -- A tag of this kind, before the rest. If it is a use, it is that of the first of these
  -- occurrences.
  abbrev pub with_resolved : ItemKind → ItemTag → List ℕ → (List ℕ → List ItemTag) → List ItemTag
  with_resolved tag.Use t (n ∷ ns) rest = record t { kind = use_kind (node_of_occurrence table n) } ∷ rest ns
  with_resolved _ t ns rest = t ∷ rest ns

  -- tags of which each use has the kind that its occurrence gives it; the occurrences are in the
  -- order of the uses
  abbrev pub resolved_tags : List ItemTag → List ℕ → List ItemTag
  resolved_tags [] occurrences = []
  resolved_tags (t ∷ tags) occurrences = with_resolved t.kind t occurrences (resolved_tags tags)

  -- the nodes of the names to which these occurrences resolve
  abbrev pub nodes_of : List ℕ → List Node
  nodes_of occurrences =
      flat_map (λ n. option_to_list (node_of_occurrence table n)) occurrences

  -- the node that an item uses, if it is a use that resolves to a name
  abbrev pub uses_in : Item → List Node
  uses_in (item.UseOf occurrence) = option_to_list (node_of_occurrence table occurrence)
  uses_in _ = []

  abbrev pub pieces_uses : List PieceRead → List Node
  pieces_uses pieces = flat_map (λ (p : PieceRead). flat_map uses_in p.items) pieces
