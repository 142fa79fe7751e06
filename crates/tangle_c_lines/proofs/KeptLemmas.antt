-- No mark of an expansion is directly after a backslash, if the pieces that it reaches are whole.
use Rattle.std.proofs.Common.{rules}
use Rattle.std.proofs.Common.{arith}
use Rattle.std.proofs.Common.{ℕ, ◌+◌, zero, suc, Bool, true, List, [], ◌∷◌, ◌++◌, map, Option}
use Rattle.std.proofs.Common.{subst, append_assoc, append-nil}
use Rattle.std.specs.Prelude.{flat_map}
use Rattle.std.specs.List.{AllByRecursion}
use Rattle.digraph.specs.Reach.{here, on}
use Rattle.tangle_lines.specs.Reading.{SourceLine, SourceRead}
use Rattle.tangle_scan.specs.declared.items.Item.{Item}
use Rattle.tangle_scan.specs.declared.items.Item.TheVariants as item
use Rattle.tangle_scan.specs.ItemBytes.{bytes_in}
use Rattle.tangle_scan.specs.Rules.{texts_of, part_tokens}
use Rattle.tangle_scan.specs.Web.{PieceRead, Block, web_of}
use Rattle.tangle_c_tokens.specs.Kinds.{AreTexts}
use Rattle.tangle_c_tokens.specs.LineFeeds.{SourceLinesHaveNoLineFeed}
use Rattle.tangle_c_tokens.proofs.kind_lemmas.WebTexts.{piece_at, node-by}
use Rattle.tangle_names.specs.NameTable.{TableRead, table_of}
use Rattle.tangle_bodies.specs.Shapes.{Title, Named, item_names, shape_names}
use Rattle.tangle_bodies.specs.Flat.{Symbol, Byte, items_flat, pieces_flat, flat}
use Rattle.tangle_bodies.specs.WebShapes.{shape_item, shape_of}
use Rattle.tangle_c_tokens.specs.Pieces.{Passage, row_of_piece}
use Rattle.tangle_c_tokens.specs.Files.{IsWholePassage, ReachesWholePieces, shapes_in}
use Rattle.tangle_c_lines.proofs.KeptMarks.{MarksAreKept, IsWholeText, after_feed, feed-kept, marks-kept}
use Rattle.tangle_c_tokens.proofs.FeedLemmas.{kept-last}
use Rattle.tangle_c_tokens.proofs.OneLineLemmas.{texts-on_line}
use Rattle.tangle_c_tokens.proofs.TextLemmas.{is_kept}
use Rattle.tangle_c_tokens.proofs.ListLemmas.{all-front, all-back, each}
use Rattle.tangle_c_tokens.proofs.ListLemmas.{all-each}
use Rattle.tangle_c_lines.proofs.SymbolLemmas.{AreKept}

-- symbols that are kept if what is after them is, and before which no backslash is
abbrev pub KeepOn : List Symbol → Type 0
KeepOn symbols = (rest : List Symbol) → AreKept true rest → AreKept true (symbols ++ rest)

-- the bytes of an item
bytes-kept : (so_far bytes : List ℕ) (rest : List Symbol) → AreKept (is_kept (so_far ++ bytes)) rest
    → AreKept (is_kept so_far) (map Byte bytes ++ rest)
bytes-kept so_far [] rest h = subst (λ (t : List ℕ). AreKept (is_kept t) rest) (append-nil so_far) h
bytes-kept so_far (b ∷ bytes) rest h =
    grind (arith, kept-last so_far b [], bytes-kept (so_far ++ b ∷ []) bytes rest, append_assoc so_far (b ∷ []) bytes)

module _ (texts : List (List ℕ)) (table : TableRead) (used : List ℕ → List Symbol) where
  abbrev symbols_of : Title → ℕ → ℕ → List Item → List Symbol
  symbols_of node piece marks items = items_flat used node piece marks (map (shape_item texts table) items)

  -- the items of a piece
  items-kept : (node : Title) (piece marks : ℕ) (so_far : List ℕ) (items : List Item) (rest : List Symbol)
      → MarksAreKept texts so_far items
      → AllByRecursion (λ name. KeepOn (used name)) (flat_map item_names (map (shape_item texts table) items)) → AreKept true rest
      → AreKept (is_kept so_far) (symbols_of node piece marks items ++ rest)
  items-kept node piece marks so_far [] rest kept names h = h
  items-kept node piece marks so_far (item.LineMark origin ∷ items) rest kept names h = (kept.0, items-kept node piece (marks + 1) [] items rest kept.1 names h)
  items-kept node piece marks so_far (item.LineEnd ∷ items) rest kept names h =
      subst (λ (is : Bool). AreKept is (symbols_of node piece marks items ++ rest)) (feed-kept so_far)
      (items-kept node piece marks (after_feed so_far) items rest kept names h)
  items-kept node piece marks so_far (item.UseOf occurrence ∷ items) rest kept names h =
      search (rules, append_assoc, all-front, all-back, items-kept node piece marks [] items rest kept)
  items-kept node piece marks so_far (item.AllMacros ∷ items) rest kept names h = items-kept node piece marks [] items rest kept names h
  items-kept node piece marks so_far (x ∷ items) rest kept names h =
      let later = items-kept node piece marks (so_far ++ bytes_in texts x) items rest kept in
      search (rules, append_assoc, bytes-kept so_far, later)

  pieces-kept : (node : Title) (piece : ℕ) (pieces : List PieceRead) → AllByRecursion (λ p. MarksAreKept texts [] p.items) pieces
      → AllByRecursion (λ name. KeepOn (used name)) (shape_names (shape_of texts table pieces))
      → KeepOn (pieces_flat used node piece (shape_of texts table pieces))
  pieces-kept node piece [] kept names rest h = h
  pieces-kept node piece (p ∷ pieces) kept names rest h =
      let more = pieces-kept node (piece + 1) pieces kept.1 in
      search (rules, append_assoc, items-kept node piece 0 [] p.items, all-front, all-back, more)

module _ (source : SourceRead) (clear : SourceLinesHaveNoLineFeed source.lines) where
  abbrev lines : List SourceLine
  lines = source.lines

  abbrev table : TableRead
  table = table_of (web_of source)

  -- the pieces of a row that is whole
  abbrev AreKeptPieces : List Passage → List PieceRead → Type 0
  AreKeptPieces row pieces =
      AllByRecursion (IsWholePassage source) row
      → AllByRecursion (λ p. MarksAreKept (texts_of lines) [] p.items) pieces

  piece-kept : (b : Block) (occurrence : Option ℕ) (line : ℕ) (row : List Passage) (pieces : List PieceRead)
      → AreTexts (texts_of lines) (part_tokens (texts_of lines) b.tokens) → AreKeptPieces row pieces
      → let piece : PieceRead = piece_at lines b occurrence line in
      AreKeptPieces (row_of_piece (texts_of lines) piece (part_tokens (texts_of lines) b.tokens) ++ row)
      (piece ∷ pieces)
  piece-kept b occurrence line row pieces are more whole =
      let own = row_of_piece (texts_of lines) (piece_at lines b occurrence line)
      (part_tokens (texts_of lines) b.tokens) in (
        marks-kept lines (λ occurrence. []) [] line b.tokens (texts-on_line lines clear (part_tokens (texts_of lines) b.tokens) are)
            (all-each (IsWholePassage source) (IsWholeText (texts_of lines) (λ occurrence. []) []) _ (λ p whole. search rules)
            (all-front (IsWholePassage source) own row whole).1),
        more (all-back (IsWholePassage source) own row whole),
      )

  -- the expansion of a node
  pub node-kept : (fuel : ℕ) (node : Title) → ReachesWholePieces source node → KeepOn (flat fuel (shapes_in source) node)
  node-kept zero node reaches = λ rest h. h
  node-kept (suc fuel) node reaches =
      pieces-kept (texts_of lines) table (λ name. flat fuel (shapes_in source) (Named name)) node 0 _
      (node-by lines table node AreKeptPieces (λ whole. tt) piece-kept clear (reaches node here))
      (each (λ name. KeepOn (flat fuel (shapes_in source) (Named name))) _
      (λ name uses. node-kept fuel (Named name) (λ other onward. reaches other (on uses onward))))
