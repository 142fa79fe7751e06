-- The lines of a whole output: at each byte of a word, sign, quoted or verbatim text or ASCII
-- constant, the counted origin is that of the byte's source line, whichever groups of lines a
-- compiler leaves out.
use Rattle.std.specs.Prelude.{◌≡◌, ℕ, zero, suc, Bool, true, false, List, [], ◌∷◌, ◌++◌, map, drop, filter}
use Rattle.std.specs.Prelude.{flat_map, Option, Some, None, slice_index_or}
use Rattle.std.specs.List.{zip}
use Rattle.tangle_lines.specs.declared.origin.Origin.{Origin}
use Rattle.tangle_lines.specs.Reading.{SourceLine, SourceRead, origin_at}
use Rattle.tangle_scan.specs.declared.items.Item.{Item}
use Rattle.tangle_scan.specs.declared.items.Item.TheVariants as item
use Rattle.tangle_scan.specs.Rules.{texts_of}
use Rattle.tangle_scan.specs.ItemBytes.{bytes_in}
use Rattle.tangle_scan.specs.Directives.{Border, SameRegion, ForEachChoice, after_line_end}
use Rattle.tangle_scan.specs.Directives.{border_after, border_at_line_end}
use Rattle.tangle_scan.specs.LineTruth.{with_line_end, origin_after_mark, Location, piece_locations}
use Rattle.tangle_scan.specs.Web.{WebRead}
use Rattle.tangle_names.specs.declared.Resolved.{Resolved}
use Rattle.tangle_names.specs.declared.Resolved.TheVariants.{Name}
use Rattle.tangle_names.specs.NameTable.{TableRead, table_of}
use Rattle.tangle_bodies.specs.Shapes.{Title, Named}
use Rattle.tangle_bodies.specs.Flat.{Symbol, Byte, MarkOf, AllMacros}
use Rattle.tangle_bodies.specs.WebShapes.{is_piece_of, resolved_at}
use Rattle.tangle_expansion.specs.Numbers.{NumbersRead, origin_of_mark, no_origin}

-- the class of a symbol, by which the counted origin is found and compared
pub data ByteClass : Type 0 where
  -- a byte of a source item (a word, a sign, a quoted or verbatim text or an ASCII constant): the
  -- origin of the source line with the item, and whether the item is in a stretch
  OfItem : Origin → Bool → ByteClass
  -- the line feed of a line end, or one inside a quoted text, and the border that is there
  LineFeed : Border → ByteClass
  -- a space, or a symbol that is no byte, and the border before the lines that it begins
  Other : Border → ByteClass

-- The source items of a piece, by their locations in the source: see `tangle_scan`'s LineTruth.

-- each source item has a location; without one, its class would have no real origin
abbrev pub class_at : List SourceLine → List Location → ByteClass
class_at lines [] = OfItem no_origin false
class_at lines (s ∷ ss) = OfItem (origin_at lines s.line) s.in_stretch

-- The classes of the symbols of an expansion, in the order of the symbols.

module _ (table : TableRead) (used : List ℕ → List ByteClass) where
  -- those of the name to which an occurrence resolves
  abbrev pub resolved_classes : Resolved → List ByteClass
  resolved_classes (Name id) = used (slice_index_or table.names id [])
  resolved_classes _ = []

  module _ (texts : List (List ℕ)) (lines : List SourceLine) where
    -- those of the items of a piece whose source items have these locations, and of its closing;
    -- `line`: the items before them on their line of C, which a use, @h and the closing end
    abbrev pub items_classes : List Item → List Location → List Item → List ByteClass
    items_classes line ss [] = Other (border_after (texts_of lines) line) ∷ []
    items_classes line ss (item.QuoteBreak ∷ items) =
        LineFeed SameRegion ∷ items_classes (line ++ item.QuoteBreak ∷ []) ss items
    items_classes line ss (item.LineEnd ∷ items) =
        LineFeed (border_at_line_end (texts_of lines) line)
        ∷ items_classes (after_line_end (texts_of lines) line) ss items
    items_classes line ss (item.Blank ∷ items) =
        Other SameRegion ∷ items_classes (line ++ item.Blank ∷ []) ss items
    items_classes line ss (item.LineMark origin ∷ items) =
        Other (border_after (texts_of lines) line) ∷ items_classes [] ss items
    items_classes line ss (item.UseOf occurrence ∷ items) =
        Other (border_after (texts_of lines) line)
        ∷ resolved_classes (resolved_at table occurrence) ++ items_classes [] ss items
    items_classes line ss (item.AllMacros ∷ items) =
        Other (border_after (texts_of lines) line) ∷ items_classes [] ss items
    items_classes line ss (x ∷ items) =
        map (λ b. class_at lines ss) (bytes_in texts x)
        ++ items_classes (line ++ x ∷ []) (drop 1 ss) items

-- those of a node's pieces; an opening and its mark come before the items of each
abbrev pub classes : ℕ → SourceRead → WebRead → Title → List ByteClass
classes zero source web title = []
classes (suc fuel) source web title =
    flat_map
    (λ p. Other SameRegion ∷ Other SameRegion
    ∷ items_classes (table_of web) (λ name. classes fuel source web (Named name))
    web.texts source.lines [] p.1 p.0.items)
    (filter (λ p. is_piece_of (table_of web) title p.0) (zip web.pieces (piece_locations source.lines)))

-- The counted origin, where marks are written in full.

-- A byte of a source item that is read, outside of stretches, is at this origin.
abbrev pub IsOwnOrigin : Bool → Option Origin → ByteClass → Type 0
IsOwnOrigin read origin (OfItem own in_stretch) =
    read ≡ true → in_stretch ≡ false → origin ≡ Some own
IsOwnOrigin read origin _ = Unit {0}

abbrev pub border_of : ByteClass → Border
border_of (OfItem own in_stretch) = SameRegion
border_of (LineFeed border) = border
border_of (Other border) = border

module _ (numbers : NumbersRead) where
  -- the counted origin after a symbol of this class: a mark that is read sets it, and after the
  -- macros it is unknown until the next mark
  abbrev pub origin_after : Bool → Option Origin → Symbol → ByteClass → Option Origin
  origin_after read origin (Byte b) (LineFeed border) = with_line_end origin
  origin_after read origin (MarkOf title piece mark) class =
      origin_after_mark read (origin_of_mark numbers title piece mark) origin
  origin_after read origin AllMacros class = None
  origin_after read origin symbol class = origin

  -- Each of these symbols, which have these classes, is at its own origin, whichever regions a
  -- compiler reads. `read`: it reads the region before the first; `origin`: the counted origin there.
  abbrev pub AreAtTheirOrigins : Bool → Option Origin → List Symbol → List ByteClass → Type 0
  AreAtTheirOrigins read origin [] [] = Unit {0}
  AreAtTheirOrigins read origin (symbol ∷ symbols) (class ∷ more) =
      ForEachChoice (border_of class) read (λ now. IsOwnOrigin now origin class
      × AreAtTheirOrigins now (origin_after now origin symbol class) symbols more)
  AreAtTheirOrigins read origin _ _ = ⊥
