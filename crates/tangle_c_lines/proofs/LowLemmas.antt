-- The line marks of a web have origins of source lines, whose numbers are as low as those of the
-- source lines are.
use Rattle.std.proofs.Common.{rules}
use Rattle.std.proofs.Common.{arith}
use Rattle.std.proofs.Common.{ℕ, Bool, List, [], ◌∷◌, ◌++◌, map}
use Rattle.std.proofs.Common.{Option, Some}
use Rattle.std.specs.Prelude.{filter, flat_map}
use Rattle.std.specs.List.{AllByRecursion}
use Rattle.tangle_files.specs.declared.marks.MarkMode.TheVariants.{Full}
use Rattle.tangle_lines.specs.declared.origin.Origin.{Origin}
use Rattle.tangle_lines.specs.Reading.{SourceLine, SourceRead}
use Rattle.tangle_lexer.specs.Steps.{all_tokens}
use Rattle.tangle_lexer.specs.declared.tokens.Token.{Token}
use Rattle.tangle_scan.specs.declared.items.Item.{Item}
use Rattle.tangle_scan.specs.declared.items.Item.TheVariants as item
use Rattle.tangle_scan.specs.Rules.{texts_of, with_all_marks, with_needed_marks, part_items, next_line}
use Rattle.tangle_scan.specs.Texts.{item_origins}
use Rattle.tangle_scan.specs.Web.{WebRead, PieceRead, web_of, Block, blocks, piece_of}
use Rattle.tangle_names.specs.NameTable.{TableRead, table_of}
use Rattle.tangle_bodies.specs.Shapes.{Title, Program, Named}
use Rattle.tangle_bodies.specs.WebShapes.{pieces_of, is_piece_of}
use Rattle.tangle_expansion.specs.Numbers.{NumbersRead, PieceNumbersRead, numbers_of, numbers_of_piece, origin_of_mark, no_origin, no_numbers}
use Rattle.tangle_expansion.specs.SymbolLimits.{IsLow}
use Rattle.tangle_c_tokens.proofs.ListLemmas.{all-get}
use Rattle.tangle_c_lines.specs.CountedLines.{SourceLinesAreLow}

module _ (lines : List SourceLine) (low : SourceLinesAreLow lines) where
  abbrev AreLow : List Item → Type 0
  AreLow items = AllByRecursion IsLow (flat_map item_origins items)

  all-marks-low : (before : Option Token) (es : List Token) → AreLow (with_all_marks lines before es)
  all-marks-low before [] = tt
  all-marks-low before (e ∷ es) = search (rules, all-get, all-marks-low (Some e) es)

  needed-low : (line : List Item) (counted : Origin) (items : List Item) → AreLow items → AreLow (with_needed_marks (texts_of lines) line counted items)
  needed-low line counted [] h = tt
  needed-low line counted (item.LineEnd ∷ item.LineMark p ∷ items) h = search (rules, needed-low [] p items)
  needed-low line counted (item.LineEnd ∷ []) h = tt
  needed-low line counted (item.LineEnd ∷ x ∷ items) h = needed-low (line ++ item.LineEnd ∷ []) (next_line counted) (x ∷ items) h
  needed-low line counted (item.LineMark p ∷ items) h = (h.0, needed-low [] p items h.1)
  needed-low line counted (x ∷ items) h =
      search (rules, needed-low (line ++ x ∷ []) (next_line counted) items, needed-low (line ++ x ∷ []) counted items)

  part-low : (line : ℕ) (es : List Token) → AreLow (part_items lines line es)
  part-low line es = search (rules, needed-low, all-marks-low)

-- the origins of the marks of a piece
abbrev pub IsLowPiece : PieceRead → Type 0
IsLowPiece p = IsLow p.origin × AllByRecursion IsLow (flat_map item_origins p.items)

pieces-low : (lines : List SourceLine) → SourceLinesAreLow lines → (bs : List Block) → AllByRecursion IsLowPiece (flat_map (piece_of lines) bs)
pieces-low lines low [] = tt
pieces-low lines low (b ∷ bs) = search (rules, pieces-low lines low bs, all-get, part-low)

abbrev AreLowNumbers : List PieceNumbersRead → Type 0
AreLowNumbers ns = AllByRecursion (λ n. AllByRecursion IsLow n.origins) ns

numbers-low : (test : PieceRead → Bool) (pieces : List PieceRead) → AllByRecursion IsLowPiece pieces → AreLowNumbers (map numbers_of_piece (filter test pieces))
numbers-low test [] low = tt
numbers-low test (p ∷ pieces) low = search (rules, numbers-low test pieces)

names-low : (web : WebRead) (table : TableRead) → AllByRecursion IsLowPiece web.pieces → (names : List (List ℕ))
    → AllByRecursion AreLowNumbers (map (λ name. map numbers_of_piece (pieces_of web table (Named name))) names)
names-low web table each [] = tt
names-low web table each (name ∷ names) = search (rules, numbers-low, names-low web table each names)

-- the origin of each mark is low
pub mark-low : (source : SourceRead) → SourceLinesAreLow source.lines → (node : Title) (piece mark : ℕ)
    → IsLow (origin_of_mark (numbers_of (web_of source) (table_of (web_of source)) Full) node piece mark)
mark-low source low node piece mark =
    let each = pieces-low source.lines low (blocks 0 (all_tokens source.lines)) in
    let web = web_of source in
    let numbers : NumbersRead = numbers_of web (table_of web) Full in
    all-get IsLow _ mark no_origin (omega arith)
    (all-get (λ (n : PieceNumbersRead). AllByRecursion IsLow n.origins) _ piece no_numbers tt
    (all-get AreLowNumbers numbers.rows _ [] tt
    (numbers-low (is_piece_of (table_of web) Program) web.pieces each, names-low web (table_of web) each _)))
