-- The shapes of a web with its table of names.
use Rattle.std.specs.Prelude.{ℕ, length, Bool, false, List, [], ◌∷◌, map, filter}
use Rattle.std.specs.Prelude.{slice_index_or, decimal, Option, Some, None}
use Rattle.tangle_files.specs.Bytes.{space, line_feed}
use Rattle.tangle_scan.specs.declared.items.Item.{Item}
use Rattle.tangle_scan.specs.declared.items.Item.TheVariants as item
use Rattle.tangle_scan.specs.Rules.{span_text}
use Rattle.tangle_scan.specs.Web.{WebRead, PieceRead}
use Rattle.tangle_names.specs.declared.Resolved.{Resolved}
use Rattle.tangle_names.specs.declared.Resolved.TheVariants.{Name, NoFullName}
use Rattle.tangle_names.specs.NameTable.{IsNameBelow, TableRead}
use Rattle.tangle_bodies.specs.Shapes.{Title, Program, Named, title_eq, ShapeItem, Written}
use Rattle.tangle_bodies.specs.Shapes.{Mark, AllMacros, Use, NoUse, Shape, Shapes}
use Rattle.tangle_bodies.specs.Shapes as kind

module _ (table : TableRead) where
  -- what the occurrence with this number resolves to
  abbrev pub resolved_at : ℕ → Resolved
  resolved_at occurrence = slice_index_or table.resolved occurrence NoFullName

  -- the name with this number in the table
  abbrev pub name_at : ℕ → List ℕ
  name_at id = slice_index_or table.names id []

  abbrev pub use_of : Resolved → ShapeItem
  use_of (Name id) = Use (name_at id)
  use_of _ = NoUse

  -- the title of the name to which an occurrence resolves
  abbrev pub title_of : Resolved → Option Title
  title_of (Name id) = Some (Named (name_at id))
  title_of _ = None

  -- the title of a piece with this occurrence; without an occurrence it is the program. A piece
  -- whose occurrence resolves to no name has no title, and is dropped.
  abbrev pub title_of_piece : Option ℕ → Option Title
  title_of_piece None = Some Program
  title_of_piece (Some occurrence) = title_of (resolved_at occurrence)

  abbrev pub is_titled : Title → Option Title → Bool
  is_titled title None = false
  is_titled title (Some other) = title_eq title other

  abbrev pub is_piece_of : Title → PieceRead → Bool
  is_piece_of title piece = is_titled title (title_of_piece piece.occurrence)

-- each occurrence that resolves to a name resolves to one of the table
abbrev pub ResolvesInside : TableRead → Type 0
ResolvesInside table =
    (occurrence : ℕ) → IsNameBelow (length table.names) (resolved_at table occurrence)

module _ (texts : List (List ℕ)) (table : TableRead) where
  -- an item of a shape, with the kind and the bytes that the scanner cut, and without an origin
  abbrev pub shape_item : Item → ShapeItem
  shape_item (item.Word span) = Written kind.Word (span_text texts span)
  shape_item (item.Sign span) = Written kind.Sign (span_text texts span)
  shape_item (item.Quoted span) = Written kind.Quoted (span_text texts span)
  shape_item item.QuoteBreak = Written kind.QuoteBreak (line_feed ∷ [])
  shape_item (item.Verbatim span) = Written kind.Verbatim (span_text texts span)
  shape_item (item.AsciiConstant value) = Written kind.AsciiConstant (decimal value)
  shape_item item.Blank = Written kind.Blank (space ∷ [])
  shape_item item.LineEnd = Written kind.LineEnd (line_feed ∷ [])
  shape_item (item.LineMark origin) = Mark
  shape_item (item.UseOf occurrence) = use_of table (resolved_at table occurrence)
  shape_item item.AllMacros = AllMacros

  -- the shape of a node with these pieces
  abbrev pub shape_of : List PieceRead → Shape
  shape_of pieces = map (λ piece. map shape_item piece.items) pieces

module _ (web : WebRead) (table : TableRead) where
  -- the pieces of a node, in the order of the source
  abbrev pub pieces_of : Title → List PieceRead
  pieces_of title = filter (is_piece_of table title) web.pieces

  abbrev pub shapes : Shapes
  shapes title = shape_of web.texts table (pieces_of title)
