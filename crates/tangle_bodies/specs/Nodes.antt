-- The nodes of a web: their titles, those that occurrences mean, and the rows of their pieces.
use Rattle.std.specs.Prelude.{◌≡◌, ◌<◌, ◌≤◌, ℕ, zero, suc, List, [], ◌∷◌, length, map, slice_index_or}
use Rattle.std.specs.Prelude.{Option, Some, None}
use Rattle.std.specs.List.{All}
use Rattle.digraph.specs.Nodes.{Node}
use Rattle.tangle_scan.specs.Web.{WebRead, PieceRead, no_piece}
use Rattle.tangle_names.specs.NameTable.{TableRead}
use Rattle.tangle_names.specs.declared.Resolved.{Resolved}
use Rattle.tangle_names.specs.declared.Resolved.TheVariants.{Name}
use Rattle.tangle_bodies.specs.Shapes.{Title, Program, Named}
use Rattle.tangle_bodies.specs.WebShapes.{pieces_of, resolved_at}

-- the title of the node: it is the program, or one of these names
abbrev pub title_at : List (List ℕ) → Node → Title
title_at names zero = Program
title_at names (suc id) = Named (slice_index_or names id [])

abbrev pub titles_at : List (List ℕ) → List Node → List Title
titles_at names nodes = map (title_at names) nodes

-- the node of the full name, if an occurrence resolves to one
abbrev pub node_of : Resolved → Option Node
node_of (Name id) = Some (suc id)
node_of _ = None

-- the node of the name to which the occurrence with this number resolves, if it resolves to one
abbrev pub node_of_occurrence : TableRead → ℕ → Option Node
node_of_occurrence table occurrence = node_of (resolved_at table occurrence)

-- the node is the program or a name of the table
abbrev pub IsNodeOf : List (List ℕ) → Node → Type 0
IsNodeOf names node = node ≤ length names

-- the pieces with these numbers
abbrev pub pieces_at : List PieceRead → List ℕ → List PieceRead
pieces_at pieces numbers = map (λ n. slice_index_or pieces n no_piece) numbers

-- the rows have the numbers of the pieces of the program, and then of each name, in the order of
-- the table
pub record IsGroupedBy (web : WebRead) (table : TableRead) (rows : List (List ℕ)) : Type 0 where
  pub inside : All (All (λ n. n < length web.pieces)) rows
  pub right : map (pieces_at web.pieces) rows
      ≡ pieces_of web table Program ∷ map (λ name. pieces_of web table (Named name)) table.names
