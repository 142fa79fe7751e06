-- The pieces of each node.
use Rattle.std.specs.Prelude.{ℕ, Bool, false, ◌==◌, List, Option}
use Rattle.std.specs.Prelude.{None, Some, slice_index_or}
use Rattle.tangle_scan.specs.Web.{PieceRead, no_piece}
use Rattle.tangle_names.specs.NameTable.{TableRead}
use Rattle.tangle_bodies.specs.Nodes.{node_of_occurrence, title_at}
use Rattle.tangle_bodies.specs.WebShapes.{is_piece_of}
use Rattle.digraph.specs.Nodes.{Node, program}
use Rattle.digraph.specs.Users.{numbers_where}

abbrev pub has_number_in : ℕ → Option ℕ → Bool
has_number_in n None = false
has_number_in n (Some m) = m == n

module _ (table : TableRead) where
  -- The node that a piece belongs to, by the occurrence that defines it. A piece without an
  -- occurrence belongs to the program; a piece whose occurrence resolves to no name belongs to no
  -- node.
  abbrev pub node_of_piece : Option ℕ → Option Node
  node_of_piece None = Some program
  node_of_piece (Some occurrence) = node_of_occurrence table occurrence

  -- the numbers of the node's pieces among the first `count` pieces
  abbrev pub positions_of : List PieceRead → ℕ → Node → List ℕ
  positions_of pieces count n =
      numbers_where (λ i. is_piece_of table (title_at table.names n) (slice_index_or pieces i no_piece))
      count
