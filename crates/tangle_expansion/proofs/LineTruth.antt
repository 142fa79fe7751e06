-- In a whole output, each byte of an item is at its own origin.
use Rattle.std.proofs.Common.{rules}
use Rattle.std.proofs.lemmas.Bool.Decides.{nat_tests}
use Rattle.std.proofs.Common.{◌≡◌, ℕ, ◌+◌, zero, suc, Bool, true, false, List, [], ◌∷◌, ◌++◌, map, drop, get_or}
use Rattle.std.proofs.Common.{Option, None, Some, ap, arith, length, length-drop}
use Rattle.std.specs.Prelude.{filter, flat_map}
use Rattle.std.specs.List.{AllZip, zip}
use Rattle.tangle_lines.specs.declared.origin.Origin.{Origin}
use Rattle.tangle_lines.specs.Reading.{SourceLine, SourceRead, origin_at}
use Rattle.tangle_scan.specs.declared.items.Item.{Item}
use Rattle.tangle_scan.specs.declared.items.Item.TheVariants as item
use Rattle.tangle_scan.specs.Rules.{texts_of}
use Rattle.tangle_scan.specs.Directives.{Border, SameRegion, ForEachChoice}
use Rattle.tangle_scan.specs.Directives.{border_after, border_at_line_end}
use Rattle.tangle_scan.specs.LineTruth.{Location, AreAtTheirLines, IsAtItsLine}
use Rattle.tangle_scan.specs.LineTruth.{piece_locations, PiecesAreAtTheirLines}
use Rattle.tangle_scan.specs.Web.{WebRead, PieceRead}
use Rattle.tangle_names.specs.declared.Resolved.{Resolved}
use Rattle.tangle_names.specs.declared.Resolved.TheVariants.{Name}
use Rattle.std.proofs.Common.{refl, inl, inr}
use Rattle.std.proofs.lemmas.Bool.{cases_Bool}
use Rattle.tangle_names.specs.NameTable.{table_of}
use Rattle.tangle_bodies.specs.Shapes.{Title, Named, ShapeItem}
use Rattle.tangle_bodies.specs.Flat.{Symbol, Byte, items_flat, pieces_flat, flat}
use Rattle.tangle_bodies.specs.WebShapes.{is_piece_of, use_of, resolved_at, shape_item, shape_of, shapes}
use Rattle.tangle_bodies.proofs.InsideLemmas.{table_inside}
use Rattle.tangle_expansion.proofs.NumberLemmas.{node_numbers_of}
use Rattle.tangle_expansion.specs.Numbers.{NumbersRead, no_origin, no_numbers, numbers_of}
use Rattle.tangle_expansion.specs.Numbers.{node_numbers, numbers_at, numbers_of_piece}
use Rattle.tangle_scan.specs.Texts.{item_origins}
use Rattle.tangle_expansion.specs.Location.{ByteClass, OfItem, Other, border_of, origin_after, AreAtTheirOrigins}
use Rattle.tangle_expansion.specs.Location.{resolved_classes, items_classes, classes}
use Rattle.tangle_files.specs.declared.marks.MarkMode.TheVariants.{Full}

-- what is true of each choice is true of those that a border permits

all-choices : (b : Border) (read : Bool) (P : Bool → Type 0) → ((now : Bool) → P now) → ForEachChoice b read P
all-choices b read P h = search rules

each-choice : (b : Border) (read : Bool) (P Q : Bool → Type 0) → ((now : Bool) → P now → Q now)
    → ForEachChoice b read P → ForEachChoice b read Q
each-choice b read P Q f h = search rules

module _ (numbers : NumbersRead) where
  located-append : (read : Bool) (q : Option Origin) (xs : List Symbol) (cs : List ByteClass) (ys : List Symbol)
      (ds : List ByteClass) → AreAtTheirOrigins numbers read q xs cs
      → ((now : Bool) (r : Option Origin) → AreAtTheirOrigins numbers now r ys ds)
      → AreAtTheirOrigins numbers read q (xs ++ ys) (cs ++ ds)
  located-append read q [] [] ys ds h k = k read q
  located-append read q (x ∷ xs) (c ∷ cs) ys ds h k =
      each-choice (border_of c) read _ _
      (λ now here. (here.0, located-append now (origin_after numbers now q x c) xs cs ys ds here.1 k)) h
  located-append read q _ _ ys ds h k = absurd h

  bytes_are_located : (read : Bool) (q : Option Origin) (origin : Origin)
      (in_stretch : Bool) (bytes : List ℕ) (ys : List Symbol) (ds : List ByteClass)
      → (read ≡ true → in_stretch ≡ false → q ≡ Some origin) → AreAtTheirOrigins numbers read q ys ds
      → AreAtTheirOrigins numbers read q (map Byte bytes ++ ys) (map (λ b. OfItem origin in_stretch) bytes ++ ds)
  bytes_are_located read q origin in_stretch [] ys ds own h = h
  bytes_are_located read q origin in_stretch (b ∷ bytes) ys ds own h =
      (own, bytes_are_located read q origin in_stretch bytes ys ds own h)

-- the first of the items from a position on, as the next mark of a piece, and the rest
pub next_of : {X : Type 0} (d : X) (xs : List X) (k : ℕ) (first : X) (rest : List X)
    → drop k xs ≡ first ∷ rest → (get_or xs k d ≡ first) × (drop (k + 1) xs ≡ rest)
next_of d (x ∷ xs) zero first rest e = (cc, cc)
next_of d (x ∷ xs) (suc k) first rest e = grind (arith, nat_tests, next_of d xs k first rest e)
next_of {X} d [] k first rest e = absurd (omega (arith, ap length e, length-drop {A = X} k []))

module _ (web : WebRead) (lines : List SourceLine)
    (used : List ℕ → List Symbol) (used_classes : List ℕ → List ByteClass)
    (all : (name : List ℕ) (read : Bool) (q : Option Origin)
    → AreAtTheirOrigins (numbers_of web (table_of web) Full) read q (used name) (used_classes name)) where
  abbrev numbers : NumbersRead
  numbers = numbers_of web (table_of web) Full

  abbrev texts : List (List ℕ)
  texts = texts_of lines

  module _ (node : Title) (piece : ℕ) where
    resolved_is_located : (marks : ℕ) (items : List ShapeItem) (ds : List ByteClass) (b : Border)
        → ((now : Bool) (q : Option Origin)
        → AreAtTheirOrigins numbers now q (items_flat used node piece marks items) ds)
        → (read : Bool) (q : Option Origin) (r : Resolved)
        → AreAtTheirOrigins numbers read q
        (items_flat used node piece marks (use_of (table_of web) r ∷ items))
        (Other b ∷ resolved_classes (table_of web) used_classes r ++ ds)
    resolved_is_located marks items ds b h read q (Name id) =
        all-choices b read _ (λ now. (tt, located-append numbers now q _ _ _ _ (all _ now q) h))
    resolved_is_located marks items ds b h read q _ = all-choices b read _ (λ now. (tt, h now q))

    items_are_located : (marks : ℕ) (read : Bool) (q : Option Origin) (line items : List Item)
        (ss : List Location)
        → drop (marks + 1) (numbers_at numbers node piece).origins ≡ flat_map item_origins items
        → AreAtTheirLines lines read q line items ss
        → AreAtTheirOrigins numbers read q
        (items_flat used node piece marks (map (shape_item web.texts (table_of web)) items))
        (items_classes (table_of web) used_classes web.texts lines line ss items)
    items_are_located marks read q line [] ss are own =
        all-choices (border_after texts line) read _ (λ now. (tt, tt))
    items_are_located marks read q line (item.QuoteBreak ∷ items) ss are own =
        (tt, items_are_located marks read _ _ items ss are own)
    items_are_located marks read q line (item.LineEnd ∷ items) ss are own =
        each-choice (border_at_line_end texts line) read _ _
        (λ now h. (tt, items_are_located marks now _ _ items ss are h)) own
    items_are_located marks read q line (item.Blank ∷ items) ss are own =
        (tt, items_are_located marks read _ _ items ss are own)
    items_are_located marks read q line (item.LineMark origin ∷ items) ss are own =
        let next = next_of no_origin _ (marks + 1) origin (flat_map item_origins items) are in
        each-choice (border_after texts line) read _ _
        (λ now h. rw next.0 (tt, items_are_located (marks + 1) now _ [] items ss next.1 h)) own
    items_are_located marks read q line (item.UseOf occurrence ∷ items) ss are own =
        let shown = map (shape_item web.texts (table_of web)) items in
        resolved_is_located marks shown _ (border_after texts line)
        (λ now r. items_are_located marks now r [] items ss are (own now r)) read q
        (resolved_at (table_of web) occurrence)
    items_are_located marks read q line (item.AllMacros ∷ items) ss are own =
        all-choices (border_after texts line) read _
        (λ now. (tt, items_are_located marks now None [] items ss are (own now None)))
    -- a source item
    items_are_located marks read q line (x ∷ items) [] are own = absurd own
    items_are_located marks read q line (x ∷ items) (s ∷ ss) are own =
        bytes_are_located numbers read q (origin_at lines s.line) s.in_stretch _ _ _ own.0.origin
        (items_are_located marks read q (line ++ x ∷ []) items ss are own.1)

  -- the classes of a node's pieces, among these pieces with their locations
  abbrev pub among : Title → List (PieceRead × List Location) → List ByteClass
  among node pieces =
      flat_map (λ p. Other SameRegion ∷ Other SameRegion
      ∷ items_classes (table_of web) used_classes web.texts lines [] p.1 p.0.items)
      (filter (λ p. is_piece_of (table_of web) node p.0) pieces)

  abbrev of_node : Title → List PieceRead → List PieceRead
  of_node node pieces = filter (is_piece_of (table_of web) node) pieces

  -- the pieces of a node, from the one with this number on
  pieces_are_located : (node : Title) (piece : ℕ) (pieces : List PieceRead) (locations : List (List Location))
      → drop piece (node_numbers numbers node) ≡ map numbers_of_piece (of_node node pieces)
      → AllZip (λ p e. IsAtItsLine lines p.origin p.items e) pieces locations
      → (read : Bool) (q : Option Origin)
      → AreAtTheirOrigins numbers read q
      (pieces_flat used node piece (shape_of web.texts (table_of web) (of_node node pieces)))
      (among node (zip pieces locations))
  pieces_are_located node piece [] locations origins own read q = tt
  pieces_are_located node piece (p ∷ pieces) [] origins own read q = elim own [ ]
  pieces_are_located node piece (p ∷ pieces) (e ∷ locations) origins own read q =
      elim (cases_Bool (is_piece_of (table_of web) node p)) [
        | inl of ↦
            let more = map numbers_of_piece (of_node node pieces) in
            let next = next_of no_numbers _ piece (numbers_of_piece p) more (rw of at origins) in
            let first : get_or (numbers_at numbers node piece).origins 0 no_origin ≡ p.origin =
            ap (λ n. get_or n.origins 0 no_origin) next.0 in
            let items = items_are_located node piece 0 read _ [] p.items e
            (ap (λ n. drop 1 n.origins) next.0) (own.0 read _ (λ now. rw (now, first) refl)) in
            let rest = pieces_are_located node (piece + 1) pieces locations next.1 own.1 in
            rw of (tt, (tt, located-append numbers read _ _ _ _ _ items rest))
        | inr other ↦ rw other (pieces_are_located node piece pieces locations (rw other at origins) own.1 read q)
      ]

-- the expansion of a node, with any fuel and from any counted origin on
pub node_is_located : (source : SourceRead) (web : WebRead) (fuel : ℕ) (node : Title) (read : Bool)
    (q : Option Origin) → PiecesAreAtTheirLines source web
    → AreAtTheirOrigins (numbers_of web (table_of web) Full) read q
    (flat fuel (shapes web (table_of web)) node) (classes fuel source web node)
node_is_located source web zero node read q own = tt
node_is_located source web (suc fuel) node read q own =
    pieces_are_located web source.lines
    (λ name. flat fuel (shapes web (table_of web)) (Named name)) (λ name. classes fuel source web (Named name))
    (λ name now r. node_is_located source web fuel (Named name) now r own)
    node 0 web.pieces (piece_locations source.lines)
    (node_numbers_of web (table_of web) Full (table_inside web) node) own read q
