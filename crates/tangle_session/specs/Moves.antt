-- Webs whose occurrences and pieces are written the same, apart from their origins.
use Rattle.std.specs.Prelude.{◌≡◌, ℕ, Bool, List, [], map, Option, None, Some}
use Rattle.tangle_lexer.specs.Occurrences.{OccurrenceRead}
use Rattle.tangle_scan.specs.Web.{WebRead, PieceRead}
use Rattle.tangle_scan.specs.declared.items.Item.{Item}
use Rattle.tangle_scan.specs.declared.items.Item.TheVariants.{UseOf}
use Rattle.tangle_names.specs.NameTable.{TableRead}
use Rattle.tangle_bodies.specs.WebShapes.{shape_item}
use Rattle.tangle_bodies.specs.Shapes.{ShapeItem, Title}
use Rattle.tangle_session.specs.Sessions.{shapes_of}

-- each node keeps its shape
abbrev pub HaveSameShapes : WebRead → WebRead → Type 0
HaveSameShapes old new = (title : Title) → shapes_of new title ≡ shapes_of old title

-- a table without names
abbrev pub no_names : TableRead
no_names = record {
  names = [];
  resolved = [];
  first_occurrences = [];
  first_file_occurrences = [];
}

-- the number of the occurrence, if the item is a use
abbrev pub used_occurrence : Item → Option ℕ
used_occurrence (UseOf occurrence) = Some occurrence
used_occurrence _ = None

-- how an item is written: its bytes without their origin, or the number of the occurrence of its
-- use
abbrev pub item_form : List (List ℕ) → Item → ShapeItem × Option ℕ
item_form texts item = (shape_item texts no_names item, used_occurrence item)

-- how a piece is written: the number of the occurrence that defines it, and its items, without its
-- section
abbrev pub piece_form : List (List ℕ) → PieceRead → Option ℕ × List (ShapeItem × Option ℕ)
piece_form texts piece = (piece.occurrence, map (item_form texts) piece.items)

-- how an occurrence is written: its text, and whether it is an abbreviation
abbrev pub occurrence_form : OccurrenceRead → List ℕ × Bool
occurrence_form occurrence = (occurrence.text, occurrence.is_abbreviation)

-- The occurrences and the pieces are written the same, in the same order. Lines, origins, files,
-- section numbers, macros and faults may differ.
pub record IsMoved (old new : WebRead) : Type 0 where
  pub occurrences : map occurrence_form new.occurrences ≡ map occurrence_form old.occurrences
  pub pieces : map (piece_form new.texts) new.pieces ≡ map (piece_form old.texts) old.pieces
