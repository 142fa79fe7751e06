-- The tokens that a C compiler reads of a whole file are those of its rows.
use Rattle.std.specs.Prelude.{◌≡◌, ℕ, Bool, true, List, [], ◌∷◌, ◌++◌, map, flat_map}
use Rattle.std.specs.Prelude.{if◌then◌else◌}
use Rattle.std.specs.List.{AllByRecursion}
use Rattle.digraph.specs.Reach.{Reaches}
use Rattle.tangle_files.specs.declared.marks.MarkMode.{MarkMode}
use Rattle.tangle_lines.specs.Reading.{SourceRead}
use Rattle.tangle_lexer.specs.declared.tokens.Token.{Token}
use Rattle.tangle_scan.specs.Rules.{texts_of}
use Rattle.tangle_scan.specs.ReadAsMeant.{all_macro_tokens, all_piece_tokens}
use Rattle.tangle_scan.specs.Web.{PieceRead, web_of}
use Rattle.tangle_names.specs.NameTable.{TableRead, table_of}
use Rattle.tangle_bodies.specs.Shapes.{Title, Named, Shapes, Uses}
use Rattle.tangle_bodies.specs.WebShapes.{is_piece_of, shapes}
use Rattle.tangle_expansion.specs.Limits.{flat_of, IsExpandableNode}
use Rattle.tangle_expansion.specs.Numbers.{NumbersRead, numbers_of, expansion_bytes}
use Rattle.tangle_expansion.specs.Outputs.{output_file_bytes}
use Rattle.tangle_expansion.specs.PieceBytes.{bytes_after_mark, used_bytes}
use Rattle.tangle_c_tokens.specs.Reading.{IsReadAsTexts}
use Rattle.tangle_c_tokens.specs.Macros.{GroupsAreReadAlone, macro_texts}
use Rattle.tangle_c_tokens.specs.LineFeeds.{TextHasNoLineFeed, SourceLinesHaveNoLineFeed}
use Rattle.tangle_c_tokens.specs.Pieces.{IsWholePart, Passage, OfPart, OfMark, begins_with_macros}
use Rattle.tangle_c_tokens.specs.Pieces.{passage_text, row_of_piece}

-- the row of a node, whose pieces are among these, which have these tokens: the rows of its pieces
abbrev pub node_row : List (List ℕ) → TableRead → Title → List PieceRead → List (List Token)
    → List Passage
node_row texts table title (piece ∷ pieces) (es ∷ tokens) =
    (if is_piece_of table title piece then row_of_piece texts piece es else [])
    ++ node_row texts table title pieces tokens
node_row texts table title pieces tokens = []

-- No source line and no name of a file has a line feed.
pub record SourceHasNoLineFeed (source : SourceRead) : Type 0 where
  pub lines : SourceLinesHaveNoLineFeed source.lines
  pub names : AllByRecursion TextHasNoLineFeed (web_of source).file_names

module _ (source : SourceRead) where
  -- the groups of items of each macro are read alone
  abbrev pub MacrosAreReadAlone : Type 0
  MacrosAreReadAlone =
      AllByRecursion (GroupsAreReadAlone (texts_of source.lines)) (all_macro_tokens source.lines)

  -- A part is whole, where nothing is written for a use, and all macros are read alone if it is @h.
  abbrev pub IsWholePassage : Passage → Type 0
  IsWholePassage (OfMark origin) = Unit {0}
  IsWholePassage (OfPart part) =
      IsWholePart (texts_of source.lines) (λ occurrence. []) [] part
      × (begins_with_macros part.items ≡ true → MacrosAreReadAlone)

  abbrev pub shapes_in : Shapes
  shapes_in = shapes (web_of source) (table_of (web_of source))

  abbrev pub row_of_node : Title → List Passage
  row_of_node title =
      node_row (texts_of source.lines) (table_of (web_of source)) title (web_of source).pieces
      (all_piece_tokens source.lines)

  -- the pieces of each node that this node reaches are whole
  abbrev pub ReachesWholePieces : Title → Type 0
  ReachesWholePieces title =
      (other : Title) → Reaches (Uses shapes_in) title other
      → AllByRecursion IsWholePassage (row_of_node other)

  module _ (marks : MarkMode) where
    abbrev pub numbers_in : NumbersRead
    numbers_in = numbers_of (web_of source) (table_of (web_of source)) marks

    -- the texts of the row of a node: its groups of items, what is written for its uses, and its
    -- line marks
    abbrev pub texts_of_node : Title → List (List ℕ)
    texts_of_node title =
        map
        (passage_text (texts_of source.lines)
        (used_bytes numbers_in (table_of (web_of source)) (λ name. flat_of shapes_in (Named name)))
        numbers_in.macros (bytes_after_mark numbers_in))
        (row_of_node title)

    -- The expansion of a node that reaches whole pieces is read as its row, one text after another.
    -- What is written for a use is read as a whole: it is the expansion of a name.
    abbrev pub NodesAreReadByParts : Type 0
    NodesAreReadByParts =
        (title : Title) → IsExpandableNode shapes_in title → ReachesWholePieces title
        → IsReadAsTexts (texts_of_node title) (expansion_bytes numbers_in (flat_of shapes_in title))

    -- the texts that a C compiler reads of a file: of all macros, if it begins with them, and of
    -- the row of its node, if that has a piece
    abbrev pub texts_of_file : Bool → Bool → Title → List (List ℕ)
    texts_of_file has_macros has_piece title =
        (if has_macros
        then flat_map (macro_texts (texts_of source.lines)) (all_macro_tokens source.lines)
        else [])
        ++ (if has_piece then texts_of_node title else [])

    -- A file is read as these texts if the macros that it begins with are read alone, and the
    -- pieces that its node reaches are whole.
    abbrev pub FilesAreReadByParts : Type 0
    FilesAreReadByParts =
        (has_macros has_piece : Bool) (title : Title)
        → (has_macros ≡ true → MacrosAreReadAlone)
        → (has_piece ≡ true → IsExpandableNode shapes_in title × ReachesWholePieces title)
        → IsReadAsTexts (texts_of_file has_macros has_piece title)
        (output_file_bytes numbers_in has_macros has_piece (flat_of shapes_in title))
