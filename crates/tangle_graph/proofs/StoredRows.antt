-- The rows of a store have the pieces of each node.
use Rattle.std.proofs.Common.{rules}
use Rattle.std.proofs.Common.{◌≡◌, ◌∙◌, ◌<◌, ◌+◌, ℕ, List, [], ◌∷◌, length, map, get_or, arith}
use Rattle.std.proofs.lemmas.List.{get_or-map, length-map, same_lists}
use Rattle.tangle_scan.specs.Web.{WebRead, PieceRead}
use Rattle.tangle_names.specs.NameTable.{TableRead, table_of}
use Rattle.tangle_bodies.specs.Shapes.{Program, Named}
use Rattle.tangle_bodies.specs.Nodes.{IsGroupedBy, pieces_at, title_at}
use Rattle.tangle_bodies.specs.WebShapes.{pieces_of}
use Rattle.digraph.specs.Rows.{IsRowsOf}
use Rattle.tangle_graph.specs.Grouping.{positions_of}
use Rattle.tangle_graph.proofs.GraphLemmas.{pieces_are, pieces_inside}

module _ (web : WebRead) (table : TableRead) where
  -- what the rows are to be made of, for the program and each name
  abbrev all : List (List PieceRead)
  all = pieces_of web table Program ∷ map (λ name. pieces_of web table (Named name)) table.names

  of_node : (n : ℕ) (d : List PieceRead)
      → n < length table.names + 1 → pieces_of web table (title_at table.names n) ≡ get_or all n d
  of_node n d h = search (rules, get_or-map)

  pub grouped_by : (rows : List (List ℕ)) → table ≡ table_of web
      → IsRowsOf (length table.names + 1) (positions_of table web.pieces (length web.pieces)) rows
      → IsGroupedBy web table rows
  grouped_by rows ours grouped =
      let size = length-map rows (pieces_at web.pieces) in record {
        inside = pieces_inside web table ours rows grouped;
        right = same_lists (map (pieces_at web.pieces) rows) all
            (omega (arith, size, grouped.size, length-map table.names (λ name. pieces_of web table (Named name))))
            (λ n d h. get_or-map (pieces_at web.pieces) rows n [] d (omega arith)
            ∙ pieces_are web table ours rows grouped n (omega (arith, grouped.size))
            ∙ of_node n d (omega (arith, grouped.size)));
      }
