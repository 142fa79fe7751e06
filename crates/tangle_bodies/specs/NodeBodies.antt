-- The body of a node, as contracts mention it, and its items while they are made.
use Rattle.std.specs.Prelude.{◌≡◌, ◌+◌, ℕ, List, [], ◌∷◌, ◌++◌, length, map}
use Rattle.std.specs.Prelude.{All, slice_get, Some}
use Rattle.std.specs.Global.{Global}
use Rattle.std.specs.declared.rc.Rc.{Rc}
use Rattle.digraph.specs.Nodes.{Node}
use Rattle.tangle_scan.specs.Texts.{TextRead}
use Rattle.tangle_scan.specs.Web.{PieceRead}
use Rattle.tangle_names.specs.NameTable.{TableRead}
use Rattle.tangle_bodies.specs.Shapes.{Shape, Shapes}
use Rattle.tangle_bodies.specs.Tags.{piece_end, piece_start, shape_tags, shape_bytes}
use Rattle.tangle_bodies.specs.Shapes.{shape_titles}
use Rattle.tangle_bodies.specs.ItemTags.{nodes_of, pieces_uses, resolved_tags}
use Rattle.tangle_bodies.specs.WebShapes.{shape_of}
use Rattle.tangle_bodies.specs.Nodes.{IsNodeOf, title_at, titles_at}
use Rattle.tangle_scan.specs.declared.texts.ItemTag.{ItemTag}
use Rattle.tangle_scan.specs.UnfoldedTags.{unfolded_tags}
use Rattle.tangle_bodies.specs.declared.nodes.NodeBody.{NodeBody}
use Rattle.tangle_bodies.specs.declared.nodes.NodeItems.{NodeItems}

-- a body, as it is in memory, where one tag may stand for several items
pub record ItemsRead : Type 0 where
  pub tags : List ItemTag
  pub bytes : List ℕ
  pub uses : List Node

abbrev pub items_read : NodeItems → List Node → ItemsRead
items_read items uses =
    record { tags = items.tags.items; bytes = items.bytes.items; uses = uses }

abbrev pub body_items : NodeBody → ItemsRead
body_items body = items_read body.items.value body.uses.items

abbrev pub nothing_made : ItemsRead
nothing_made = record { tags = []; bytes = []; uses = [] }

-- the items with one more piece, which has this text
abbrev pub with_piece : TableRead → ItemsRead → TextRead → ItemsRead
with_piece table old text = record old {
  tags = old.tags ++ (piece_start ∷ resolved_tags table text.tags text.uses ++ piece_end ∷ []);
  bytes = old.bytes ++ text.bytes;
  uses = old.uses ++ nodes_of table text.uses;
}

-- the nodes that the items use: one for each use that resolves to a name
abbrev pub body_uses : NodeBody → List Node
body_uses body = body.uses.items

-- the body determines this shape, where the table has these names
pub record HoldsShape (names : List (List ℕ)) (shape : Shape) (body : NodeBody) : Type 0 where
  pub tags : unfolded_tags body.items.value.tags.items body.items.value.bytes.items
      ≡ shape_tags shape
  pub bytes : body.items.value.bytes.items ≡ shape_bytes shape
  pub uses : titles_at names (body_uses body) ≡ shape_titles shape

-- these are the items of these pieces
pub record AreItemsOf (texts : List (List ℕ)) (table : TableRead)
    (pieces : List PieceRead) (items : ItemsRead) : Type 0 where
  pub tags : unfolded_tags items.tags items.bytes ≡ shape_tags (shape_of texts table pieces)
  pub bytes : items.bytes ≡ shape_bytes (shape_of texts table pieces)
  pub uses : items.uses ≡ pieces_uses table pieces

-- the same items, whatever tags stand for them, with uses of the same names, where the one table has
-- these names and the other table those
pub record HaveOneShape (names other_names : List (List ℕ))
    (items others : ItemsRead) : Type 0 where
  pub tags : unfolded_tags items.tags items.bytes ≡ unfolded_tags others.tags others.bytes
  pub bytes : items.bytes ≡ others.bytes
  pub uses : titles_at names items.uses ≡ titles_at other_names others.uses

-- The bodies of the nodes of some shapes.

-- the body of each node
abbrev pub node_bodies : List (Rc NodeBody Global) → List NodeBody
node_bodies bodies = map (λ (body : Rc NodeBody Global). body.value) bodies

-- the body determines the node's shape, and uses nodes of the table
pub record IsBodyOf (shapes : Shapes) (names : List (List ℕ))
    (node : Node) (body : NodeBody) : Type 0 where
  pub shape : HoldsShape names (shapes (title_at names node)) body
  pub inside : All (IsNodeOf names) (body_uses body)

-- there is a body for each node, which is such a one
pub record AreBodiesOf (shapes : Shapes) (names : List (List ℕ))
    (bodies : List NodeBody) : Type 0 where
  pub size : length bodies ≡ length names + 1
  pub each : (node : Node) (body : NodeBody) → slice_get bodies node ≡ Some body
      → IsBodyOf shapes names node body
