-- The classes of an expansion fit its symbols: an item has no line feed, and each other byte is a
-- line feed with its class, or a space.
use Rattle.c_lines.proofs.LineDirectiveLemmas.{digits-line}
use Rattle.std.proofs.Common.{rules}
use Rattle.std.proofs.Common.{arith}
use Rattle.std.proofs.Common.{◌≡◌, ℕ, ◌+◌, zero, suc, false, List, [], ◌∷◌, ◌++◌, map}
use Rattle.std.proofs.Common.{refl, sym, subst}
use Rattle.std.specs.Prelude.{◌==◌, filter, flat_map}
use Rattle.std.specs.List.{AllZip, zip}
use Rattle.std.proofs.lemmas.Bool.Decides.{nat_tests}
use Rattle.c_tokens.specs.Bytes.{line_feed}
use Rattle.tangle_lines.specs.Reading.{SourceLine, SourceRead}
use Rattle.tangle_text.specs.Text.{span_text}
use Rattle.tangle_text.specs.declared.spans.Span.{Span}
use Rattle.tangle_scan.specs.declared.items.Item.{Item}
use Rattle.tangle_scan.specs.Rules.{texts_of}
use Rattle.tangle_scan.specs.Directives.{SameRegion, after_line_end}
use Rattle.tangle_scan.specs.LineTruth.{Location, piece_locations, PiecesAreAtTheirLines}
use Rattle.tangle_scan.specs.Web.{WebRead, PieceRead, web_of}
use Rattle.tangle_names.specs.NameTable.{table_of}
use Rattle.tangle_bodies.specs.Shapes.{Title, Named}
use Rattle.tangle_bodies.specs.Flat.{Symbol, Byte, items_flat, pieces_flat, flat}
use Rattle.tangle_bodies.specs.WebShapes.{is_piece_of, shape_item, shape_of, shapes}
use Rattle.tangle_expansion.specs.Location.{ByteClass, Other, class_at, items_classes, classes}
use Rattle.tangle_c_tokens.specs.LineFeeds.{TextHasNoLineFeed, SourceLinesHaveNoLineFeed}
use Rattle.tangle_c_tokens.proofs.DecimalLemmas.{decimal-digits}
use Rattle.tangle_c_tokens.proofs.OneLineLemmas.{span-clear}
use Rattle.tangle_c_lines.proofs.SymbolLemmas.{FitsClass}

zip-both : {X Y : Type 0} (R : X → Y → Type 0) (xs zs : List X) (ys ws : List Y) → AllZip R xs ys → AllZip R zs ws → AllZip R (xs ++ zs) (ys ++ ws)
zip-both R [] zs [] ws h k = k
zip-both R [] zs (y ∷ ys) ws h k = absurd h
zip-both R (x ∷ xs) zs ys ws h k = search (rules, zip-both R xs zs)

module _ (web : WebRead) (lines : List SourceLine) (same : web.texts ≡ texts_of lines) (clear : SourceLinesHaveNoLineFeed lines)
    (used : List ℕ → List Symbol) (used_classes : List ℕ → List ByteClass)
    (all : (name : List ℕ) → AllZip FitsClass (used name) (used_classes name)) where
  fits-class : (b : ℕ) (ss : List Location) → (b == line_feed) ≡ false → FitsClass (Byte b) (class_at lines ss)
  fits-class b ss other = search rules

  bytes-fit : (bytes : List ℕ) (ss : List Location) (ys : List Symbol) (ds : List ByteClass) → TextHasNoLineFeed bytes
      → AllZip FitsClass ys ds → AllZip FitsClass (map Byte bytes ++ ys) (map (λ b. class_at lines ss) bytes ++ ds)
  bytes-fit [] ss ys ds none h = h
  bytes-fit (b ∷ bytes) ss ys ds none h = grind (arith, nat_tests, fits-class b ss, bytes-fit bytes ss ys ds)

  span-fits : (s : Span) → TextHasNoLineFeed (span_text web.texts s)
  span-fits s = subst (λ (texts : List (List ℕ)). TextHasNoLineFeed (span_text texts s)) (sym same) (span-clear lines clear s)

  items-fit : (node : Title) (piece marks : ℕ) (line items : List Item) (ss : List Location)
      → AllZip FitsClass (items_flat used node piece marks (map (shape_item web.texts (table_of web)) items))
      (items_classes (table_of web) used_classes web.texts lines line ss items)
  items-fit node piece marks line [] ss = (tt, tt)
  items-fit node piece marks line (x ∷ items) ss =
      let on = items-fit node piece marks (line ++ x ∷ []) items in
      let mark = items-fit node piece (marks + 1) [] items ss in
      let first = items-fit node piece marks [] items ss in
      let next = items-fit node piece marks (after_line_end (texts_of lines) line) items ss in
      search (rules, bytes-fit, zip-both, span-fits, digits-line, decimal-digits, on, mark, first, next)

  abbrev of_node : Title → List PieceRead → List PieceRead
  of_node node pieces = filter (is_piece_of (table_of web) node) pieces

  abbrev classes_in : Title → List (PieceRead × List Location) → List ByteClass
  classes_in node pieces =
      flat_map (λ p. Other SameRegion ∷ Other SameRegion ∷ items_classes (table_of web) used_classes web.texts lines [] p.1 p.0.items) pieces

  -- the pieces of a node, from the one with this number on
  pieces-fit : (R : PieceRead → List Location → Type 0) (node : Title) (piece : ℕ) (pieces : List PieceRead) (locations : List (List Location))
      → AllZip R pieces locations
      → AllZip FitsClass (pieces_flat used node piece (shape_of web.texts (table_of web) (of_node node pieces)))
      (classes_in node (filter (λ p. is_piece_of (table_of web) node p.0) (zip pieces locations)))
  pieces-fit R node piece [] locations long = tt
  pieces-fit R node piece (p ∷ pieces) [] long = absurd long
  pieces-fit R node piece (p ∷ pieces) (e ∷ locations) long =
      let items = items-fit node piece 0 [] p.items e in
      let later = pieces-fit R node (piece + 1) pieces locations in
      search (rules, zip-both, items, later, pieces-fit R node piece pieces locations)

pub node-fits : (source : SourceRead) (fuel : ℕ) (node : Title) → PiecesAreAtTheirLines source (web_of source) → SourceLinesHaveNoLineFeed source.lines
    → AllZip FitsClass (flat fuel (shapes (web_of source) (table_of (web_of source))) node) (classes fuel source (web_of source) node)
node-fits source zero node own clear = tt
node-fits source (suc fuel) node own clear =
    pieces-fit (web_of source) source.lines refl clear
    (λ name. flat fuel (shapes (web_of source) (table_of (web_of source))) (Named name)) (λ name. classes fuel source (web_of source) (Named name))
    (λ name. node-fits source fuel (Named name) own clear)
    _ node 0 (web_of source).pieces (piece_locations source.lines) own
