-- At which lines a C compiler counts the tokens that it reads of an output file: each one that begins
-- in a byte of an item is counted at the item's line of the source, whichever groups of lines the
-- compiler leaves out.
use Rattle.std.specs.Prelude.{◌≡◌, ℕ, ◌+◌, Bool, true, false, List, [], ◌∷◌, ◌++◌, map, take, drop}
use Rattle.std.specs.Prelude.{if◌then◌else◌, Option, Some, None, get_or, slice_index_or, codes}
use Rattle.std.specs.List.{AllByRecursion}
use Rattle.std.specs.Str.{bytes_eq}
use Rattle.c_lines.specs.Counting.{Place, start_of_text, PlacedElement, LineOfTokens, lines_from}
use Rattle.c_lines.specs.Counting.{directive, begins_group, turns_group, PresumedLine}
use Rattle.c_lines.specs.Counting.{c_reads}
use Rattle.tangle_files.specs.declared.marks.MarkMode.TheVariants.{Full}
use Rattle.tangle_lines.specs.Reading.{SourceLine, SourceRead}
use Rattle.tangle_scan.specs.Directives.{Border, SameRegion, GroupTurns}
use Rattle.tangle_scan.specs.Web.{web_of}
use Rattle.tangle_bodies.specs.Flat.{Symbol}
use Rattle.tangle_bodies.specs.Shapes.{Title}
use Rattle.tangle_expansion.specs.Limits.{levels, flat_of, IsExpandableNode}
use Rattle.tangle_expansion.specs.Location.{ByteClass, OfItem, Other, border_of, classes}
use Rattle.tangle_expansion.specs.Numbers.{NumbersRead, symbol_bytes}
use Rattle.tangle_expansion.specs.SymbolLimits.{IsLow}
use Rattle.tangle_expansion.specs.Outputs.{front_bytes, output_file_bytes}
use Rattle.tangle_c_tokens.specs.Files.{numbers_in, shapes_in, MacrosAreReadAlone}
use Rattle.tangle_c_tokens.specs.Files.{ReachesWholePieces}

-- The class of each byte of a file: the first byte of a symbol has the class of the symbol. Any
-- other byte is of no item, and is in the region of the byte before it.

abbrev pub no_class : ByteClass
no_class = Other SameRegion

-- the classes of the bytes of symbols of these classes
abbrev pub classes_of_bytes : NumbersRead → List Symbol → List ByteClass → List ByteClass
classes_of_bytes numbers (symbol ∷ symbols) (class ∷ more) =
    class ∷ map (λ b. no_class) (drop 1 (symbol_bytes numbers symbol))
    ++ classes_of_bytes numbers symbols more
classes_of_bytes numbers _ _ = []

-- those of a file, which are computed from the source: of the macros, if they begin it, and of the
-- expansion of its node and a line feed, if the node has a piece
abbrev pub classes_of_file : SourceRead → Bool → Bool → Title → List ByteClass
classes_of_file source has_macros has_piece title =
    let numbers : NumbersRead = numbers_in source Full in
    map (λ b. no_class) (front_bytes numbers has_macros)
    ++ (if has_piece
    then classes_of_bytes numbers (flat_of (shapes_in source) title)
    (classes levels source (web_of source) title)
    ++ no_class ∷ []
    else [])

abbrev pub class_of_byte : List ByteClass → ℕ → ByteClass
class_of_byte classes at = slice_index_or classes at no_class

abbrev pub is_of_item : ByteClass → Bool
is_of_item (OfItem own in_stretch) = true
is_of_item class = false

-- Directives that are seen: where a compiler reads a directive, the rules for items do too.

-- the second of two borders, or the first one if the second cuts no regions
abbrev pub later_border : Border → Border → Border
later_border before SameRegion = before
later_border before border = border

-- the last border of regions among these classes
abbrev pub last_border : List ByteClass → Border
last_border [] = SameRegion
last_border (class ∷ classes) = later_border (border_of class) (last_border classes)

abbrev pub is_between_regions : Border → Bool
is_between_regions SameRegion = false
is_between_regions border = true

-- a directive that begins with the word `line`
abbrev pub sets_line : List (List ℕ) → Bool
sets_line [] = false
sets_line (word ∷ words) = bytes_eq word (codes "line")

-- where the first of these tokens begins
abbrev pub place_of_first : List PlacedElement → Place
place_of_first [] = start_of_text
place_of_first (e ∷ es) = e.place

module _ (classes : List ByteClass) where
  -- the classes from the first token of a line of C up to the line feed that ends the line
  abbrev pub classes_of_line : LineOfTokens → List ByteClass
  classes_of_line line = drop (place_of_first line.tokens).at (up_to line.end)
    where
      up_to : Option Place → List ByteClass
      up_to None = classes
      up_to (Some end) = take (end.at + 1) classes

  -- If a line of C is a directive that begins a group, a border of regions is there. If it turns or
  -- ends one, the border of such a directive is there. No `#line` begins with the sign # of an item.
  pub record IsSeen (line : LineOfTokens) : Type 0 where
    pub begins : begins_group (directive line.tokens) ≡ true
        → is_between_regions (last_border (classes_of_line line)) ≡ true
    pub turns : turns_group (directive line.tokens) ≡ true
        → last_border (classes_of_line line) ≡ GroupTurns
    pub marks : sets_line (directive line.tokens) ≡ true
        → is_of_item (class_of_byte classes (place_of_first line.tokens).at) ≡ false

  -- the lines of C that are directives are seen
  abbrev pub DirectivesAreSeen : List ℕ → Type 0
  DirectivesAreSeen bytes = AllByRecursion IsSeen (lines_from start_of_text bytes)

-- A token whose first byte has this class, that of an item outside of stretches, is counted at the
-- line of the source with the item. Nothing is said of any other token.
abbrev pub IsCountedAtItsLine : List (List ℕ) → ByteClass → PresumedLine → Type 0
IsCountedAtItsLine names (OfItem own false) presumed =
    presumed ≡ record { file = get_or names own.file []; line = own.line }
IsCountedAtItsLine names class presumed = Unit {0}

-- Each token that a compiler reads of a file of this name is at its line, whichever groups of lines
-- it leaves out. `names`: those of the files of the source.
abbrev pub IsCountedAsWritten : List (List ℕ) → List ByteClass → List ℕ → List ℕ → Type 0
IsCountedAsWritten names classes file bytes =
    (choices : List Bool)
    → AllByRecursion (λ t. IsCountedAtItsLine names (class_of_byte classes t.at) t.origin)
    (c_reads choices file bytes)

-- The number of each source line in its file is below 2 ^ 32. So it is if the files are within the
-- limits of tables.
abbrev pub SourceLinesAreLow : List SourceLine → Type 0
SourceLinesAreLow lines = AllByRecursion (λ l. IsLow l.origin) lines

module _ (source : SourceRead) where
  -- the bytes of a file, with line marks that are written in full
  abbrev pub bytes_of_file : Bool → Bool → Title → List ℕ
  bytes_of_file has_macros has_piece title =
      output_file_bytes (numbers_in source Full) has_macros has_piece
      (flat_of (shapes_in source) title)

  -- A file is counted as it is written if the macros that it begins with are read alone, the pieces
  -- that its node reaches are whole, and its directives are seen.
  abbrev pub FilesAreCountedAsWritten : Type 0
  FilesAreCountedAsWritten =
      (name : List ℕ) (has_macros has_piece : Bool) (title : Title)
      → (has_macros ≡ true → MacrosAreReadAlone source)
      → (has_piece ≡ true → IsExpandableNode (shapes_in source) title × ReachesWholePieces source title)
      → DirectivesAreSeen (classes_of_file source has_macros has_piece title)
      (bytes_of_file has_macros has_piece title)
      → IsCountedAsWritten (web_of source).file_names
      (classes_of_file source has_macros has_piece title) name
      (bytes_of_file has_macros has_piece title)
