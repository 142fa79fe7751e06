-- The pieces of a web as they are stored, one after another.
use Rattle.std.proofs.Common.{rules}
use Rattle.std.proofs.Common.{◌≡◌, ◌<◌, ◌+◌, ℕ, List, Option, map, length}
use Rattle.std.proofs.Common.{get_or, ap, arith}
use Rattle.std.specs.Option.{IfSome}
use Rattle.std.proofs.lemmas.List.{get_or-map, length-map}
use Rattle.tangle_scan.specs.Web.{WebRead, no_piece, stored_piece}
use Rattle.tangle_scan.specs.declared.pieces.Piece.{Piece}
use Rattle.tangle_scan.specs.WellFormed.{IsWellFormed}
use Rattle.tangle_names.specs.NameTable.{TableRead, table_of}
use Rattle.tangle_graph.specs.Grouping.{has_number_in, node_of_piece}
use Rattle.tangle_bodies.specs.Nodes.{title_at}
use Rattle.tangle_bodies.specs.WebShapes.{is_piece_of}
use Rattle.tangle_graph.proofs.GraphLemmas.{distinct_names, resolves_inside}
use Rattle.tangle_graph.proofs.GroupLemmas.{piece_is}

module _ (web : WebRead) (table : TableRead) (stored : List Piece) (i : ℕ) (p : Piece)
    (is : stored ≡ map stored_piece web.pieces) (low : i < length stored) (at : p ≡ get_or stored i p) where
  inside : i < length web.pieces
  inside = omega (arith, ap length is, length-map web.pieces stored_piece)

  -- the occurrence that defines the piece at an index
  occurrence_at : (get_or web.pieces i no_piece).occurrence ≡ p.occurrence
  occurrence_at = search (rules, get_or-map, inside)

  -- it is one of the table
  pub defined_inside : table ≡ table_of web → IsWellFormed web → (occurrence : Option ℕ) → occurrence ≡ p.occurrence
      → IfSome occurrence (λ n. n < length table.resolved)
  defined_inside ours formed occurrence same = search (rules, length-map, occurrence_at)

  -- it is a piece of the node that is found by its occurrence
  pub is_of_node : table ≡ table_of web → (occurrence : Option ℕ) → occurrence ≡ p.occurrence
      → (made : Option ℕ) → made ≡ node_of_piece table occurrence → (n : ℕ) → n < length table.names + 1
      → has_number_in n made ≡ is_piece_of table (title_at table.names n) (get_or web.pieces i no_piece)
  is_of_node ours occurrence same made known n h = (let p = piece_is table (distinct_names web table
      ours) (resolves_inside web table ours) n (omega arith) in search (rules, p, occurrence_at))
