-- The tokens of the file of a node are those of its row.
use Rattle.std.proofs.Common.{rules, ◌≡◌, ℕ, zero, suc, Bool, true, false, if◌then◌else◌, List, [], ◌∷◌, ◌++◌, map, flat_map, append-nil, refl, sym, subst, drop, append_assoc, Option}
use Rattle.tangle_c_tokens.proofs.TextLemmas.{IsMarkText, IsWholeLine, no-text, feed-front, apart-from, slash-border, mark-between}
use Rattle.tangle_c_tokens.proofs.MarkLemmas.{mark-is_line, mark_end-at, name-at}
use Rattle.std.specs.List.{AllByRecursion}
use Rattle.c_tokens.specs.Bytes.{line_feed}
use Rattle.tangle_files.specs.declared.marks.MarkMode.{MarkMode}
use Rattle.tangle_lines.specs.declared.origin.Origin.{Origin}
use Rattle.tangle_lines.specs.Reading.{SourceRead, SourceLine, origin_at}
use Rattle.tangle_scan.specs.Rules.{texts_of, part_tokens, part_items}
use Rattle.tangle_scan.specs.Web.{web_of, PieceRead, Block}
use Rattle.tangle_names.specs.NameTable.{TableRead, table_of}
use Rattle.tangle_bodies.specs.Shapes.{Title, Named, Shapes, shape_names, item_names}
use Rattle.tangle_bodies.specs.Flat.{Symbol, flat, pieces_flat}
use Rattle.tangle_bodies.specs.WebShapes.{pieces_of, shape_item, shape_of}
use Rattle.tangle_bodies.proofs.InsideLemmas.{table_inside}
use Rattle.tangle_expansion.specs.Limits.{flat_of, levels, IsExpandableNode}
use Rattle.tangle_expansion.specs.Numbers.{NumbersRead, expansion_bytes, mark_bytes, closing_bytes}
use Rattle.tangle_expansion.specs.PieceBytes.{bytes_after_mark, piece_bytes, used_bytes, items_bytes}
use Rattle.tangle_expansion.proofs.NumberLemmas.{node_numbers_of}
use Rattle.tangle_expansion.proofs.PieceLemmas.{pieces_written}
use Rattle.tangle_expansion.proofs.SameShapes.{flat_by_uses}
use Rattle.tangle_c_tokens.specs.Reading.{IsReadAsTexts}
use Rattle.tangle_c_tokens.specs.Pieces.{passage_text, Passage, mark_place, row_after, row_of_piece}
use Rattle.tangle_c_tokens.specs.Files.{FilesAreReadByParts, SourceHasNoLineFeed, IsWholePassage, MacrosAreReadAlone, NodesAreReadByParts, ReachesWholePieces, numbers_in, shapes_in, texts_of_node, row_of_node}
use Rattle.tangle_c_tokens.proofs.ListLemmas.{each, all-back, all-front}
use Rattle.digraph.specs.Reach.{here, on}
use Rattle.tangle_c_tokens.proofs.FeedLemmas.{KeepsFeed, keeps-more, closing-keeps}
use Rattle.tangle_c_tokens.proofs.AllMacroLemmas.{macros-keep, macros-whole}
use Rattle.c_tokens.proofs.ElementLemmas.{keep-other}
use Rattle.std.proofs.lemmas.List.{map-append}
use Rattle.tangle_scan.specs.declared.items.Item.{Item}
use Rattle.tangle_c_tokens.proofs.kind_lemmas.WebTexts.{piece_at, node-by}
use Rattle.tangle_c_tokens.proofs.CommentLemmas.{after-opening, after-closing}
use Rattle.tangle_c_tokens.proofs.PieceLemmas.{IsWholeUse, piece-by-parts}
use Rattle.tangle_c_tokens.specs.Kinds.{AreTexts}
use Rattle.tangle_c_tokens.proofs.OneLineLemmas.{texts-on_line}

line_feed_first : (marks : MarkMode) (ending : List ℕ) (line : ℕ)
    → mark_bytes marks ending line ≡ line_feed ∷ drop 1 (mark_bytes marks ending line)
line_feed_first marks ending line = search rules

module _ (source : SourceRead) (modes : MarkMode)
    (feeds : SourceHasNoLineFeed source) where
  abbrev lines : List SourceLine
  lines = source.lines

  abbrev table : TableRead
  table = table_of (web_of source)

  abbrev numbers : NumbersRead
  numbers = numbers_in source modes

  abbrev all_shapes : Shapes
  all_shapes = shapes_in source

  mark-lines : (origin : Origin) → IsMarkText (bytes_after_mark numbers origin)
  mark-lines origin = search (rules, mark_end-at, mark-is_line, name-at)

  macros-line : MacrosAreReadAlone source → IsWholeLine numbers.macros
  macros-line whole =
      let read = simp append-nil at (macros-whole lines [] [] no-text feeds.lines whole) in
      record { lines = read.lines; kept = search (rules, macros-keep) }

  -- what is written for the names that a node uses
  module _ (used : List ℕ → List Symbol) where
    abbrev used_text : ℕ → List ℕ
    used_text occurrence = used_bytes numbers table used occurrence

    abbrev bytes_of : PieceRead → List ℕ
    bytes_of piece = piece_bytes numbers table used (texts_of lines) piece

    abbrev texts_in : List Passage → List (List ℕ)
    texts_in row = map (passage_text (texts_of lines) used_text numbers.macros (bytes_after_mark numbers)) row

    abbrev IsWholeName : List ℕ → Type 0
    IsWholeName name = IsWholeLine (expansion_bytes numbers (used name))

    -- the names of the uses of items
    abbrev names_in : List Item → List (List ℕ)
    names_in items = flat_map item_names (map (shape_item (texts_of lines) table) items)

    uses-whole : (items : List Item) → AllByRecursion IsWholeName (names_in items)
        → AllByRecursion (IsWholeUse used_text) items
    uses-whole [] names = tt
    uses-whole (x ∷ items) names = search (rules, uses-whole items)

    -- a piece, and what is written after it
    piece-read : (b : Block) (occurrence : Option ℕ) (line : ℕ) (rest : List ℕ) (ts : List (List ℕ)) →
        let piece : PieceRead = piece_at lines b occurrence line in
        let row : List Passage = row_of_piece (texts_of lines) piece (part_tokens (texts_of lines) b.tokens) in
        AreTexts (texts_of lines) (part_tokens (texts_of lines) b.tokens) → AllByRecursion (IsWholePassage source) row
        → AllByRecursion IsWholeName (names_in piece.items)
        → IsReadAsTexts ts rest → IsReadAsTexts (texts_in row ++ ts) (bytes_of piece ++ rest)
    piece-read b occurrence line rest ts are whole names read =
        let origin = origin_at lines line in
        let items = items_bytes numbers table used (texts_of lines) (part_items lines line b.tokens) in
        let tail = closing_bytes b.section ++ rest in
        let mark = bytes_after_mark numbers origin in
        let tokens = part_tokens (texts_of lines) b.tokens in
        let places = flat_map mark_place (part_items lines line b.tokens) in
        let us = texts_in (row_after (texts_of lines) [] places tokens) ++ ts in
        subst (IsReadAsTexts (mark ∷ us)) (search (rules, append_assoc, line_feed_first))
        (after-opening b.section (line_feed ∷ (mark ++ (items ++ tail))) _
        (feed-front (mark ++ (items ++ tail)) _ (mark-between mark (items ++ tail) (mark-lines origin) us
        (piece-by-parts source used_text (bytes_after_mark numbers) numbers.macros mark-lines macros-line tail ts
        (after-closing b.section rest ts read)
        (λ a whole one ends. apart-from a tail whole one (search (rules, keep-other))
        (search (rules, slash-border))) line b.tokens (texts-on_line lines feeds.lines tokens are) whole.1
        (uses-whole _ names)))))

    -- the bytes of pieces do not end in a backslash
    pieces-keep : (pieces : List PieceRead) → KeepsFeed (flat_map bytes_of pieces)
    pieces-keep [] = refl
    pieces-keep (piece ∷ pieces) = search (rules, keeps-more, closing-keeps, pieces-keep pieces)

    -- the bytes of a node are those of its pieces
    written : (node : Title) → expansion_bytes numbers (pieces_flat used node 0 (all_shapes node))
        ≡ flat_map bytes_of (pieces_of (web_of source) table node)
    written node = search (rules, pieces_written, node_numbers_of, table_inside)

    -- `tail` is written after the node, and read as the texts `us`.
    module _ (node : Title) (tail : List ℕ) (us : List (List ℕ)) (tail_read : IsReadAsTexts us tail) where
      -- a row that is whole, and what is written for the uses of its pieces, are read
      abbrev RowIsRead : List Passage → List PieceRead → Type 0
      RowIsRead row pieces =
          AllByRecursion (IsWholePassage source) row × AllByRecursion IsWholeName
          (shape_names (shape_of (texts_of lines) table pieces))
          → IsReadAsTexts (texts_in row ++ us) (flat_map bytes_of pieces ++ tail)

      one-more : (b : Block) (occurrence : Option ℕ) (line : ℕ) (row : List Passage) (pieces : List PieceRead)
          → AreTexts (texts_of lines) (part_tokens (texts_of lines) b.tokens) → RowIsRead row pieces
          → let piece : PieceRead = piece_at lines b occurrence line in
          RowIsRead (row_of_piece (texts_of lines) piece (part_tokens (texts_of lines) b.tokens) ++ row) (piece ∷ pieces)
      one-more b occurrence line row pieces are next ready =
          let piece = piece_at lines b occurrence line in
          let own : List Passage = row_of_piece (texts_of lines) piece (part_tokens (texts_of lines) b.tokens) in
          let later = flat_map bytes_of pieces in
          let names = names_in piece.items in
          subst (λ us. IsReadAsTexts us ((bytes_of piece ++ later) ++ tail))
          (search (rules, map-append, append_assoc))
          (subst (IsReadAsTexts (texts_in own ++ (texts_in row ++ us)))
          (sym (append_assoc (bytes_of piece) later tail))
          (piece-read b occurrence line (later ++ tail) (texts_in row ++ us) are
          (all-front (IsWholePassage source) own row ready.0)
          (all-front IsWholeName names _ ready.1)
          (next (all-back (IsWholePassage source) own row ready.0, all-back IsWholeName names _ ready.1))))

      -- what a node reaches its names reach
      node-by-parts : ReachesWholePieces source node
          → ((name : List ℕ) → ReachesWholePieces source (Named name) → IsWholeName name)
          → IsReadAsTexts (texts_in (row_of_node source node) ++ us)
          (expansion_bytes numbers (pieces_flat used node 0 (all_shapes node)) ++ tail)
      node-by-parts reaches line =
          rw (written node) (node-by lines table node RowIsRead (λ ready. tail_read) one-more
          feeds.lines (
            reaches node here,
            each IsWholeName (shape_names (all_shapes node))
                (λ name uses. line name (λ other onward. reaches other (on uses onward))),
          ))

  -- what a name expands to is whole, if it reaches whole pieces
  name-line : (fuel : ℕ) (name : List ℕ) → ReachesWholePieces source (Named name)
      → IsWholeLine (expansion_bytes numbers (flat fuel all_shapes (Named name)))
  name-line zero name reaches = record { lines = (refl, tt); kept = refl }
  name-line (suc fuel) name reaches =
      let used : List ℕ → List Symbol = λ name. flat fuel all_shapes (Named name) in
      let read = node-by-parts used (Named name) [] [] no-text reaches (name-line fuel) in
      let lines = simp append-nil at read.lines in
      record { lines = lines; kept = rw (written used (Named name)) (search (rules, pieces-keep)) }

  node-then : (node : Title) → IsExpandableNode all_shapes node → ReachesWholePieces source node
      → (tail : List ℕ) (us : List (List ℕ)) → IsReadAsTexts us tail →
      IsReadAsTexts (texts_of_node source modes node ++ us)
      (expansion_bytes numbers (flat_of all_shapes node) ++ tail)
  node-then node expandable reaches tail us read =
      let used : List ℕ → List Symbol = λ name. flat_of all_shapes (Named name) in
      rw (flat_by_uses levels all_shapes node expandable.shallow)
      (node-by-parts used node tail us read reaches (name-line levels))

  pub node_is_read : NodesAreReadByParts source modes
  node_is_read node expandable reaches = simp append-nil at (node-then node expandable reaches [] [] no-text)

  abbrev bytes_in_file : Bool → Title → List ℕ
  bytes_in_file has_piece node =
      if has_piece then expansion_bytes numbers (flat_of all_shapes node) ++ line_feed ∷ [] else []

  node-in-file : (has_piece : Bool) (node : Title) → (has_piece ≡ true → IsExpandableNode all_shapes node × ReachesWholePieces source node) →
      IsReadAsTexts (if has_piece then texts_of_node source modes node else []) (bytes_in_file has_piece node)
  node-in-file false node ready = no-text
  node-in-file true node ready =
      simp append-nil at (node-then node (ready refl).0 (ready refl).1 (line_feed ∷ []) [] (feed-front [] [] no-text))

  pub file_is_read : FilesAreReadByParts source modes
  file_is_read false has_piece node whole ready = node-in-file has_piece node ready
  file_is_read true has_piece node whole ready =
      macros-whole lines (bytes_in_file has_piece node) (if has_piece then texts_of_node source modes node else [])
      (node-in-file has_piece node ready) feeds.lines (whole refl)
