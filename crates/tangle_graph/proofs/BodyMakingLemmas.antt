-- Bodies that are made of the pieces of a node.
use Rattle.std.proofs.Common.{rules}
use Rattle.std.proofs.Common.{◌≡◌, ◌≢◌, ◌∙◌, ◌<◌, ◌↔◌, ◌==◌, ℕ, not, true, List, [], length}
use Rattle.std.proofs.Common.{refl, ap, sym, subst}
use Rattle.std.specs.Prelude.{All}
use Rattle.std.proofs.lemmas.List.{length-map}
use Rattle.digraph.specs.Graph.{row_at}
use Rattle.digraph.specs.Nodes.{Node}
use Rattle.tangle_scan.specs.Web.{PieceRead}
use Rattle.tangle_bodies.specs.Nodes.{pieces_at, title_at, titles_at}
use Rattle.tangle_bodies.specs.NodeBodies.{ItemsRead, AreItemsOf, HaveOneShape, HoldsShape, body_items}
use Rattle.tangle_bodies.specs.NodeBodies.{body_uses}
use Rattle.tangle_bodies.specs.Shapes.{Shape}
use Rattle.tangle_bodies.specs.WebShapes.{pieces_of, shapes}
use Rattle.tangle_bodies.proofs.HeldLemmas.{titles_held}
use Rattle.tangle_bodies.proofs.TagLemmas.{bodies_decide}
use Rattle.tangle_bodies.specs.declared.nodes.NodeBody.{NodeBody}
use Rattle.tangle_bodies.specs.NodeBodies.{IsBodyOf}
use Rattle.tangle_bodies.specs.Nodes.{IsNodeOf}
use Rattle.tangle_graph.specs.NewBodies.{IsGrouped}
use Rattle.tangle_graph.specs.declared.bodies.GroupedWeb.{GroupedWeb}
use Rattle.tangle_graph.proofs.GraphLemmas.{pieces_are, pieces_inside, resolves_inside}
use Rattle.tangle_graph.proofs.GroupLemmas.{pieces_below}
use Rattle.tangle_graph.proofs.NodeMeasureLemmas.{piece_of_row}

module _ (grouped : GroupedWeb) (is : IsGrouped grouped) (node : Node) (inside : IsNodeOf grouped.names.now node)
    (row : List ℕ) (at : row ≡ row_at grouped.pieces.now node) where
  abbrev names : List (List ℕ)
  names = grouped.names.now

  abbrev pieces : List PieceRead
  pieces = pieces_of grouped.web.now grouped.table.now (title_at names node)

  given : pieces_at grouped.web.now.pieces row ≡ pieces
  given = search (rules, pieces_are)

  pub numbers : All (λ i. i < length grouped.web.now.pieces) row
  numbers = search (rules, pieces_inside)

  module _ (items : ItemsRead)
      (are : AreItemsOf grouped.web.now.texts grouped.table.now (pieces_at grouped.web.now.pieces row) items) where
    own : AreItemsOf grouped.web.now.texts grouped.table.now pieces items
    own = subst (λ ps. AreItemsOf grouped.web.now.texts grouped.table.now ps items) given are

    pub uses_below : All (IsNodeOf names) items.uses
    uses_below = rw (own.uses, is.names)
        (pieces_below grouped.table.now (resolves_inside grouped.web.now grouped.table.now is.table)
        (pieces_of grouped.web.now grouped.table.now (title_at grouped.table.now.names node)))

    -- a body with the items of a node's pieces
    pub body_of_items : {others other : List (List ℕ)} (body : NodeBody)
        → HaveOneShape others other items (body_items body) → items.uses ≡ body_uses body
        → IsBodyOf (shapes grouped.web.now grouped.table.now) names node body
    body_of_items body same uses = record {
      shape = record {
        tags = sym same.tags ∙ own.tags;
        bytes = sym same.bytes ∙ own.bytes;
        uses = ap (titles_at names) (sym uses ∙ own.uses)
            ∙ rw is.names (titles_held grouped.web.now.texts grouped.table.now
            (pieces_of grouped.web.now grouped.table.now (title_at grouped.table.now.names node)));
      };
      inside = subst (All (IsNodeOf names)) uses uses_below;
    }

    pub body_made : (body : NodeBody) → body_items body ≡ items
        → IsBodyOf (shapes grouped.web.now grouped.table.now) names node body
    body_made body e = body_of_items {others = []} {other = []} body
        (subst (λ i. HaveOneShape [] [] i (body_items body)) e
        (record { tags = refl; bytes = refl; uses = refl }))
        (sym (ap (λ (i : ItemsRead). i.uses) e))

  -- whether the shape of a node that had no piece is new
  pub new_if_pieces : (body : NodeBody) (s t : Shape)
      → IsBodyOf (shapes grouped.web.now grouped.table.now) names node body
      → HoldsShape names s body → t ≡ [] → ((not (length row == 0) ≡ true) ↔ (s ≢ t))
  new_if_pieces body s t has held none =
      let decided = bodies_decide names names body body s _ held has.shape in
      search (rules, decided, piece_of_row, length-map, given)
