-- The rows that grouping makes are the pieces of each node, and uses by number are uses by title.
use Rattle.std.proofs.Common.{◌≡◌, ◌∙◌, ◌<◌, ◌≤◌, ◌+◌, ℕ, List, [], length, map, ap, sym, subst, arith}
use Rattle.std.proofs.Common.{All, Contains}
use Rattle.std.specs.List.{IsDistinct}
use Rattle.std.specs.Str.{bytes_eq}
use Rattle.std.specs.Prelude.{Some, slice_get}
use Rattle.std.proofs.lemmas.List.{length-map}
use Rattle.std.proofs.lemmas.Option.{slice_get_within}
use Rattle.std.proofs.lemmas.List.Elements.{All-from_get_or}
use Rattle.tangle_scan.specs.Web.{WebRead}
use Rattle.tangle_names.specs.NameTable.{TableRead, table_of}
use Rattle.tangle_names.proofs.LawLemmas.{once as names_once}
use Rattle.tangle_bodies.specs.NodeBodies.{body_uses}
use Rattle.tangle_scan.specs.Web.{no_piece}
use Rattle.tangle_bodies.specs.Nodes.{pieces_at, title_at}
use Rattle.tangle_bodies.specs.Shapes.{Title, Named, Shapes, Uses}
use Rattle.tangle_bodies.specs.Shapes as title
use Rattle.tangle_bodies.specs.WebShapes.{ResolvesInside, is_piece_of, pieces_of}
use Rattle.tangle_bodies.specs.declared.nodes.NodeBody.{NodeBody}
use Rattle.tangle_bodies.proofs.InsideLemmas.{table_inside}
use Rattle.digraph.specs.Graph.{Graph, HasUse, row_at}
use Rattle.digraph.specs.Nodes.{Node}
use Rattle.digraph.specs.Rows.{IsRowsOf}
use Rattle.digraph.proofs.GraphLemmas.{node_in}
use Rattle.tangle_bodies.specs.NodeBodies.{AreBodiesOf}
use Rattle.tangle_graph.specs.Grouping.{positions_of}
use Rattle.tangle_graph.specs.NameGraphs.{AreUsesOf}
use Rattle.tangle_bodies.proofs.EachLemmas.{part_read, some_at}
use Rattle.tangle_graph.proofs.BodyLemmas.{node_used, used_node}
use Rattle.tangle_graph.proofs.RowLemmas.{numbers_below, positions_read}

module _ (web : WebRead) (table : TableRead) (ours : table ≡ table_of web) where
  pub resolves_inside : ResolvesInside table
  resolves_inside = subst ResolvesInside (sym ours) (table_inside web)

  pub distinct_names : IsDistinct bytes_eq table.names
  distinct_names = subst (λ (t : TableRead). IsDistinct bytes_eq t.names) (sym ours) (names_once web.occurrences)

  module _ (rows : List (List ℕ))
      (grouped : IsRowsOf (length table.names + 1) (positions_of table web.pieces (length web.pieces)) rows) where
    pub pieces_are : (n : ℕ) → n ≤ length table.names
        → pieces_at web.pieces (row_at rows n) ≡ pieces_of web table (title_at table.names n)
    pieces_are n low =
        ap (pieces_at web.pieces) (grouped.row n (omega arith))
        ∙ positions_read (is_piece_of table (title_at table.names n)) web.pieces no_piece

    -- the positions of pieces are numbers of pieces
    pub pieces_inside : All (All (λ i. i < length web.pieces)) rows
    pieces_inside = All-from_get_or (All (λ i. i < length web.pieces)) rows []
        (λ n h. rw (grouped.row n (omega arith)) (numbers_below _ (length web.pieces)))

module _ (shapes : Shapes) (names : List (List ℕ)) (bodies : List NodeBody) (uses : Graph)
    (are : AreBodiesOf shapes names bodies) (used : AreUsesOf (map body_uses bodies) uses) where
  pub uses_count : length uses ≡ length names + 1
  uses_count = used.size ∙ length-map bodies body_uses ∙ are.size

  -- each node that the body of a node has is a use of the node
  pub use_up : (n m : Node) (body : NodeBody) → slice_get bodies n ≡ Some body
      → Contains (body_uses body) m → HasUse uses n m
  use_up n m body at c =
      ((used.once n (omega (arith, slice_get_within bodies n body at, length-map bodies body_uses))).same m).1
      (rw (part_read body_uses bodies n body [] at) c)

  pub sound : (n m : ℕ) → HasUse uses n m → Uses shapes (title_at names n) (title_at names m)
  sound n m u =
      let inside = node_in uses n m u in
      let own = some_at bodies n (omega (arith, uses_count)) in
      used_node shapes names n own.0 (are.each n own.0 own.1) m
      (rw (part_read body_uses bodies n own.0 [] own.1) at (((used.once n (omega arith)).same m).0 u))

  pub complete : (n : ℕ) (t : Title) → n < length uses → Uses shapes (title_at names n) t
      → (m : ℕ) × HasUse uses n m × (m < length uses) × (title_at names m ≡ t)
  complete n title.Program h u = absurd u
  complete n (Named name) h u =
      let own = some_at bodies n (omega (arith, uses_count)) in
      let found = node_used shapes names n own.0 (are.each n own.0 own.1) name u in
      (found.0, use_up n found.0 own.0 own.1 found.1, omega (arith, found.2, uses_count), found.3)
