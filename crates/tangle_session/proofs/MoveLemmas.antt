-- Webs that are written the same, apart from origins, have the same shapes, so an edit from one to the other expands
-- nothing.
use Rattle.std.proofs.Common.{rules}
use Rattle.std.proofs.lemmas.Bool.Decides.{nat_tests}
use Rattle.std.proofs.Common.{◌≡◌, ◌∙◌, ℕ, Bool, not, List, [], ◌∷◌, map, filter, refl, ap, sym}
use Rattle.std.proofs.Common.{arith}
use Rattle.std.specs.Prelude.{Option, None, Some, if◌then◌else◌}
use Rattle.std.proofs.lemmas.Grind.{common_steps}
use Rattle.std.proofs.lemmas.Simd.{map-map}
use Rattle.tangle_lexer.specs.Occurrences.{OccurrenceRead}
use Rattle.tangle_scan.specs.Web.{WebRead, PieceRead}
use Rattle.tangle_scan.specs.declared.items.Item.{Item}
use Rattle.tangle_names.specs.declared.Resolved.{Resolved}
use Rattle.tangle_names.specs.Names.{NameText, Meaning, One, full_names, meaning, only_with, prefix}
use Rattle.tangle_names.specs.NameTable.{TableRead}
use Rattle.tangle_names.specs.Resolving.{names_of, resolve, resolved_meaning}
use Rattle.tangle_bodies.specs.WebShapes.{is_piece_of, is_titled, resolved_at, shape_item, title_of_piece, use_of}
use Rattle.tangle_bodies.specs.Shapes.{Shape, ShapeItem, Title}
use Rattle.digraph.specs.Nodes.{Node}
use Rattle.tangle_session.specs.Moves.{HaveSameShapes, IsMoved, item_form, occurrence_form, piece_form}
use Rattle.tangle_session.specs.Sessions.{ListsAffectedOfWebs, shapes_of}

pub nothing_affected : (old new : WebRead) (nodes : List Node)
    → HaveSameShapes old new → ListsAffectedOfWebs old new nodes → nodes ≡ []
nothing_affected old new [] same lists = refl
nothing_affected old new (node ∷ nodes) same lists =
    grind (arith, nat_tests, ((lists.just node).0 (0, omega arith, refl)).1)

-- the names depend only on how their occurrences are written

abbrev SaidOccurrence : Type 0
SaidOccurrence = NameText × Bool

abbrev full_said : List SaidOccurrence → List NameText
full_said ss = map (λ s. s.0) (filter (λ s. not s.1) ss)

full_same : (os : List OccurrenceRead) → full_names os ≡ full_said (map occurrence_form os)
full_same [] = refl
full_same (o ∷ os) = grind (arith, common_steps, full_same os)

abbrev meaning_said : List NameText → SaidOccurrence → Meaning
meaning_said full s = if s.1 then only_with full (prefix s.0) else One s.0

abbrev names_said : List SaidOccurrence → List NameText
names_said ss = names_of (map (meaning_said (full_said ss)) ss)

abbrev resolved_said : List SaidOccurrence → List Resolved
resolved_said ss = map (λ s. resolved_meaning (names_said ss) (meaning_said (full_said ss) s)) ss

resolved_same : (os : List OccurrenceRead) → map (resolve os) os ≡ resolved_said (map occurrence_form os)
resolved_same os = ap (λ full. map (λ o. resolved_meaning (names_of (map (meaning full) os)) (meaning full o)) os)
    (full_same os) ∙ sym (search (rules, map-map))

-- the shapes depend only on how the pieces are written

abbrev SaidItem : Type 0
SaidItem = ShapeItem × Option ℕ

abbrev SaidPiece : Type 0
SaidPiece = Option ℕ × List SaidItem

abbrev table_with : List NameText → List Resolved → TableRead
table_with names resolved =
    record { names = names; resolved = resolved; first_occurrences = []; first_file_occurrences = [] }

module _ (table : TableRead) where
  abbrev item_said : SaidItem → ShapeItem
  item_said s = elim s.1 [ None ↦ s.0 | Some occurrence ↦ use_of table (resolved_at table occurrence) ]

  items_same : (texts : List (List ℕ)) (items : List Item)
      → map (shape_item texts table) items ≡ map item_said (map (item_form texts) items)
  items_same texts items = search (rules, map-map)

  abbrev shapes_said : List SaidPiece → Title → Shape
  shapes_said pieces node =
      map (λ p. map item_said p.1) (filter (λ p. is_titled table node (title_of_piece table p.0)) pieces)

  shape_same : (texts : List (List ℕ)) (node : Title) (pieces : List PieceRead)
      → map (λ (p : PieceRead). map (shape_item texts table) p.items) (filter (is_piece_of table node) pieces)
      ≡ shapes_said (map (piece_form texts) pieces) node
  shape_same texts node [] = refl
  shape_same texts node (p ∷ pieces) =
      grind (arith, nat_tests, items_same texts p.items, shape_same texts node pieces)

-- the shapes of a web are a function of how the web is written
shapes_same : (web : WebRead) (node : Title)
    → shapes_of web node
    ≡ shapes_said
    (table_with (names_said (map occurrence_form web.occurrences))
    (resolved_said (map occurrence_form web.occurrences))) (map (piece_form web.texts) web.pieces) node
shapes_same web node = search (rules, shape_same, full_same, resolved_same, map-map)

pub moved_same : (old new : WebRead) → IsMoved old new → HaveSameShapes old new
moved_same old new moved node = simp (shapes_same, moved.occurrences, moved.pieces)
