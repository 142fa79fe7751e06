-- The numbers of the pieces of a web and of its nodes, as they are in memory.
use Rattle.std.specs.Prelude.{ℕ, List, get_or, map}
use Rattle.digraph.specs.Graph.{row_at}
use Rattle.tangle_expansion.specs.Numbers.{PieceNumbersRead}
use Rattle.tangle_expansion.specs.declared.piece_numbers.PieceNumbers.{PieceNumbers}

module _ (pieces : PieceNumbers) where
  -- the numbers of the piece with this position in the web
  abbrev pub numbers_of_position : ℕ → PieceNumbersRead
  numbers_of_position n =
      record { section = get_or pieces.sections.items n 0; origins = row_at pieces.origins n }

  -- for each of these rows of positions the numbers of its pieces
  abbrev pub numbers_of_rows : List (List ℕ) → List (List PieceNumbersRead)
  numbers_of_rows rows = map (map numbers_of_position) rows
