-- The section numbers and origins of a web, what its nodes use, the bytes of its macros, and the
-- bytes that an expansion gives with them.
use Rattle.std.specs.Prelude.{ℕ, suc, ◌+◌, ◌==◌, ◌||◌, List, [], ◌∷◌, ◌++◌, map, flat_map, get_or, codes}
use Rattle.std.specs.Prelude.{decimal, length, position, if◌then◌else◌}
use Rattle.std.specs.Option.{option_map_or}
use Rattle.digraph.specs.Graph.{row_at}
use Rattle.std.specs.Str.{bytes_eq}
use Rattle.tangle_files.specs.Bytes.{line_feed}
use Rattle.tangle_lines.specs.Bytes.{double_quote}
use Rattle.tangle_text.specs.Bytes.{backslash}
use Rattle.tangle_lines.specs.declared.origin.Origin.{Origin}
use Rattle.tangle_scan.specs.Texts.{item_origins}
use Rattle.tangle_scan.specs.Web.{WebRead, PieceRead}
use Rattle.tangle_names.specs.NameTable.{TableRead}
use Rattle.tangle_bodies.specs.Shapes.{Title, Program, Named}
use Rattle.tangle_bodies.specs.Flat.{Symbol, Byte, Opening, MarkOf, Closing, AllMacros}
use Rattle.tangle_bodies.specs.WebShapes.{pieces_of, shapes}
use Rattle.tangle_expansion.specs.Expanded.{UsedTitles, used_titles}
use Rattle.tangle_files.specs.declared.marks.MarkMode.{MarkMode}
use Rattle.tangle_files.specs.declared.marks.MarkMode.TheVariants.{Full, Bare}
use Rattle.tangle_scan.specs.MacroBytes.{macro_bytes}

-- the section number of a piece, and the origins of its marks, that of the opening mark first
pub record PieceNumbersRead : Type 0 where
  pub section : ℕ
  pub origins : List Origin

-- what the bytes of a web's expansions depend on, besides their items
pub record NumbersRead : Type 0 where
  -- for each file, what comes after the number in its line marks
  pub mark_ends : List (List ℕ)
  -- the names of the table; and a row for the program and for each name, with the numbers of its
  -- pieces, and one with the titles of what it uses
  pub names : List (List ℕ)
  pub rows : List (List PieceNumbersRead)
  pub uses : List (List Title)
  pub macros : List ℕ
  -- how line marks are written
  pub marks : MarkMode

-- Within the quotes of a line mark a C compiler reads these two bytes alone in another way.
abbrev pub escaped_byte : ℕ → List ℕ
escaped_byte b = if b == backslash || b == double_quote then backslash ∷ b ∷ [] else b ∷ []

-- the escaped name of a file, as a line mark has it
abbrev pub escaped : List ℕ → List ℕ
escaped name = flat_map escaped_byte name

-- what comes after the number in the line marks of a file with this name
abbrev pub mark_end : List ℕ → List ℕ
mark_end name = codes " \"" ++ escaped name ++ codes "\"\n"

abbrev pub numbers_of_piece : PieceRead → PieceNumbersRead
numbers_of_piece piece =
    record { section = piece.section; origins = piece.origin ∷ flat_map item_origins piece.items }

-- what is made of the program, and then of each of these names
abbrev pub each_node : {X : Type 0} → List (List ℕ) → (Title → X) → List X
each_node names f = f Program ∷ map (λ name. f (Named name)) names

abbrev pub numbers_of : WebRead → TableRead → MarkMode → NumbersRead
numbers_of web table marks = record {
  mark_ends = map mark_end web.file_names;
  names = table.names;
  rows = each_node table.names (λ title. map numbers_of_piece (pieces_of web table title));
  uses = each_node table.names (used_titles (shapes web table));
  macros = flat_map (macro_bytes web.texts) web.macros;
  marks = marks;
}

-- the bytes of an expansion

abbrev pub opening_bytes : ℕ → List ℕ
opening_bytes section = codes "/*" ++ decimal section ++ codes ":*/"

abbrev pub closing_bytes : ℕ → List ℕ
closing_bytes section = codes "/*:" ++ decimal section ++ codes "*/"

-- the bytes of a line mark; a bare one is a line feed
abbrev pub mark_bytes : MarkMode → List ℕ → ℕ → List ℕ
mark_bytes Full ending line = codes "\n#line " ++ decimal line ++ ending
mark_bytes Bare ending line = line_feed ∷ []

abbrev pub no_numbers : PieceNumbersRead
no_numbers = record { section = 0; origins = [] }

abbrev pub no_origin : Origin
no_origin = record { file = 0; line = 0 }

-- the number of the row of the node with this title; no row has it if the name is none of these
abbrev pub row_number : List (List ℕ) → Title → ℕ
row_number names Program = 0
row_number names (Named name) =
    option_map_or suc (position (bytes_eq name) names) (length names + 1)

module _ (numbers : NumbersRead) where
  -- the numbers of a node's pieces
  abbrev pub node_numbers : Title → List PieceNumbersRead
  node_numbers title = row_at numbers.rows (row_number numbers.names title)

  -- the titles of what each node uses
  abbrev pub titles_used : UsedTitles
  titles_used title = row_at numbers.uses (row_number numbers.names title)

  abbrev pub numbers_at : Title → ℕ → PieceNumbersRead
  numbers_at title piece = get_or (node_numbers title) piece no_numbers

  abbrev pub origin_of_mark : Title → ℕ → ℕ → Origin
  origin_of_mark title piece mark = get_or (numbers_at title piece).origins mark no_origin

  -- the bytes of a line mark with this origin
  abbrev pub mark_bytes_at : Origin → List ℕ
  mark_bytes_at origin =
      mark_bytes numbers.marks (get_or numbers.mark_ends origin.file (mark_end [])) origin.line

  abbrev pub symbol_bytes : Symbol → List ℕ
  symbol_bytes (Byte b) = b ∷ []
  symbol_bytes (Opening title piece) = opening_bytes (numbers_at title piece).section
  symbol_bytes (MarkOf title piece mark) = mark_bytes_at (origin_of_mark title piece mark)
  symbol_bytes (Closing title piece) = closing_bytes (numbers_at title piece).section
  symbol_bytes AllMacros = line_feed ∷ numbers.macros

  abbrev pub expansion_bytes : List Symbol → List ℕ
  expansion_bytes symbols = flat_map symbol_bytes symbols
