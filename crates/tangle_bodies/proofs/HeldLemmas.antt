-- The body of a node determines its shape.
use Rattle.std.proofs.Common.{rules}
use Rattle.std.proofs.Common.{◌≡◌, ℕ, List, [], ◌∷◌, ◌++◌, map, refl, ap, arith}
use Rattle.std.specs.Prelude.{flat_map, option_to_list}
use Rattle.std.proofs.lemmas.List.Folds.{flat_map-map}
use Rattle.tangle_scan.specs.declared.items.Item.{Item}
use Rattle.tangle_scan.specs.declared.items.Item.TheVariants as item
use Rattle.tangle_scan.specs.declared.texts.ItemTag.{ItemTag}
use Rattle.tangle_scan.specs.ItemBytes.{bytes_in}
use Rattle.tangle_scan.specs.Texts.{item_uses, tag_of}
use Rattle.tangle_scan.specs.Web.{PieceRead}
use Rattle.tangle_names.specs.declared.Resolved.{Resolved}
use Rattle.tangle_names.specs.NameTable.{TableRead}
use Rattle.tangle_bodies.specs.WebShapes.{resolved_at, shape_item, shape_of, use_of}
use Rattle.tangle_bodies.specs.Tags.{item_tag, item_bytes}
use Rattle.tangle_bodies.specs.Shapes.{Named, item_names, shape_titles}
use Rattle.tangle_bodies.specs.ItemTags.{nodes_of, pieces_uses, resolved_tags, use_kind, uses_in}
use Rattle.tangle_bodies.specs.Nodes.{node_of, node_of_occurrence, title_at, titles_at}
use Rattle.tangle_bodies.proofs.EachLemmas.{each_mapped}

module _ (texts : List (List ℕ)) (table : TableRead) where
  use_held : (r : Resolved) → let t : ItemTag = record { kind = use_kind (node_of r); size = 0 } in t ≡ item_tag (use_of table r)
  use_held x = grind arith

  pub tags_held : (items : List Item)
      → resolved_tags table (map (tag_of texts) items) (flat_map item_uses items)
      ≡ map item_tag (map (shape_item texts table) items)
  tags_held [] = refl
  tags_held (item.UseOf occurrence ∷ items) = cc (use_held (resolved_at table occurrence), tags_held items)
  tags_held (x ∷ items) = ap (λ ts. tag_of texts x ∷ ts) (tags_held items)

  pub uses_held : (items : List Item) → nodes_of table (flat_map item_uses items) ≡ flat_map (uses_in table) items
  uses_held [] = refl
  uses_held (item.UseOf occurrence ∷ items) = ap (λ l. option_to_list (node_of_occurrence table occurrence) ++ l) (uses_held items)
  uses_held (x ∷ items) = assumption (uses_held items)

  pub bytes_held : (items : List Item)
      → flat_map (bytes_in texts) items ≡ flat_map item_bytes (map (shape_item texts table) items)
  bytes_held items = search (rules, flat_map-map)

  item_titled : (x : Item)
      → map (title_at table.names) (uses_in table x) ≡ map Named (item_names (shape_item texts table x))
  item_titled x = grind arith

  pub titles_held : (pieces : List PieceRead)
      → titles_at table.names (pieces_uses table pieces) ≡ shape_titles (shape_of texts table pieces)
  titles_held pieces = each_mapped (title_at table.names) Named _ (flat_map item_names) _
      (λ p. each_mapped (title_at table.names) Named (uses_in table) item_names (shape_item texts table) item_titled p.items) pieces
