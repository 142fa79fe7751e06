-- Nodes by number agree with those by title.
use Rattle.std.proofs.Common.{rules}
use Rattle.std.proofs.Common.{◌≡◌, ◌<◌, ◌≤◌, ℕ, eqb, List}
use Rattle.std.proofs.Common.{length, All}
use Rattle.std.specs.Prelude.{Option}
use Rattle.std.specs.List.{IsDistinct}
use Rattle.std.specs.Str.{bytes_eq}
use Rattle.tangle_scan.specs.declared.items.Item.{Item}
use Rattle.tangle_scan.specs.declared.items.Item.TheVariants as item
use Rattle.tangle_scan.specs.Web.{PieceRead}
use Rattle.tangle_names.specs.NameTable.{TableRead}
use Rattle.tangle_bodies.specs.ItemTags.{uses_in, pieces_uses}
use Rattle.tangle_bodies.specs.Nodes.{IsNodeOf, title_at}
use Rattle.tangle_bodies.specs.Shapes.{title_eq}
use Rattle.tangle_bodies.specs.WebShapes.{is_titled, title_of_piece}
use Rattle.tangle_bodies.specs.WebShapes.{ResolvesInside}
use Rattle.tangle_graph.specs.Grouping.{node_of_piece, has_number_in}
use Rattle.tangle_graph.proofs.ListLemmas.{all_flat}
use Rattle.tangle_graph.proofs.NodeLemmas.{once_titled}

module _ (table : TableRead) (distinct : IsDistinct bytes_eq table.names) (inside : ResolvesInside table)
    (n : ℕ) (low : n ≤ length table.names) where
  -- two nodes are one if their titles are
  same_node : (m : ℕ) → m ≤ length table.names → eqb m n ≡ title_eq (title_at table.names n) (title_at table.names m)
  same_node m h = search (rules, once_titled)

  pub piece_is : (occurrence : Option ℕ)
      → has_number_in n (node_of_piece table occurrence)
      ≡ is_titled table (title_at table.names n) (title_of_piece table occurrence)
  piece_is occurrence = search (rules, same_node)

item_below : (table : TableRead) → ResolvesInside table → (x : Item)
    → All (IsNodeOf table.names) (uses_in table x)
item_below table inside (item.UseOf occurrence) = search rules
item_below table inside x = search rules

pub pieces_below : (table : TableRead) → ResolvesInside table → (pieces : List PieceRead)
    → All (IsNodeOf table.names) (pieces_uses table pieces)
pieces_below table inside = search (rules, all_flat, item_below)
