-- Worked webs: the output, weight and depth of their nodes.
use Rattle.std.proofs.Common.{◌≡◌, ℕ, false, List, [], ◌∷◌, ◌+◌, ◌-◌, ◌*◌, ◌^◌, ◌++◌, refl}
use Rattle.std.specs.Fmt.{digits}
use Rattle.std.specs.Prelude.{codes, map, true}
use Rattle.tangle_files.specs.Lines.{cut}
use Rattle.tangle_lines.specs.Reading.{SourceLine, SourceRead}
use Rattle.tangle_lexer.specs.Steps.{lexeme, occurrences_from, tokens_from}
use Rattle.tangle_scan.specs.Web.{WebRead, web_of}
use Rattle.tangle_names.specs.NameTable.{table_of}
use Rattle.tangle_names.proofs.ContainsLemmas.{here as here_in}
use Rattle.digraph.specs.Reach.{here, on, ContainsItself}
use Rattle.tangle_bodies.specs.Shapes.{Title, Program, Named, Shapes, Uses}
use Rattle.tangle_bodies.specs.Flat.{flat, weight, depth}
use Rattle.tangle_bodies.specs.WebShapes.{shapes}
use Rattle.tangle_expansion.specs.Numbers.{NumbersRead, numbers_of, expansion_bytes}
use Rattle.tangle_expansion.specs.Location.{ByteClass, OfItem, LineFeed, Other, classes}
use Rattle.tangle_files.specs.declared.marks.MarkMode.TheVariants.{Full}

-- the source lines of the file `a.w`, from a line number on
abbrev numbered_lines : ℕ → List (List ℕ) → List SourceLine
numbered_lines n [] = []
numbered_lines n (line ∷ lines) =
    record { bytes = line; origin = record { file = 0; line = n }; changed = false } ∷ numbered_lines (n + 1) lines

abbrev source : List ℕ → SourceRead
source text = record { files = (codes "a.w", cut text) ∷ []; lines = numbered_lines 1 (cut text); faults = [] }

-- the web with this text, its shapes and its numbers

abbrev web : List ℕ → WebRead
web text = web_of (source text)

abbrev shapes_in : List ℕ → Shapes
shapes_in text = shapes (web text) (table_of (web text))

abbrev numbers_in : List ℕ → NumbersRead
numbers_in text = numbers_of (web text) (table_of (web text)) Full

-- the output of a node, and a line feed
abbrev output : List ℕ → Title → List ℕ
output text node = expansion_bytes (numbers_in text) (flat 1001 (shapes_in text) node) ++ codes "\n"

-- the weight and the depth of a node
abbrev limits_in : List ℕ → Title → ℕ × ℕ
limits_in text node = (weight 16777217 (shapes_in text) node, depth 1001 (shapes_in text) node)

abbrev one_part : List ℕ
one_part = codes "@ A.\n@c\nint x;"

-- a use of a name
abbrev one_use : List ℕ
one_use = codes "@ A.\n@c\nint x=@<v@>;\n@ @<v@>=\n1"

-- a join over a line end
abbrev joined : List ℕ
joined = codes "@ A.\n@c\na@&\nb;\nc;"

-- An abbreviation that comes before the one name to which it resolves.
abbrev early : List ℕ
early = codes "@ A.\n@c\n@<Ini...@>\n@ @<Initialize@>=\nx=0;"

-- Two names that use each other, or the second of which uses no name, and a named file.
abbrev two_names : List ℕ → List ℕ
two_names line = codes "@ P.\n@c\n@<A@>\n@ @<A@>=\n@<B@>\n@ @<B@>=\n" ++ line ++ codes "\n@ @(h.h@>=\nint h;"

-- One more line at the top adds 1 to each line number, and one more section adds 1 to each section number too.
outputs : (output one_part Program ≡ codes "/*1:*/\n#line 2 \"a.w\"\n\nint x;\n/*:1*/\n")
    × (output one_use Program
    ≡ codes "/*1:*/\n#line 2 \"a.w\"\n\nint x= /*2:*/\n#line 4 \"a.w\"\n\n1\n/*:2*/\n#line 3 \"a.w\"\n;\n/*:1*/\n")
    × (output (codes "% top\n" ++ one_use) Program
    ≡ codes "/*1:*/\n#line 3 \"a.w\"\n\nint x= /*2:*/\n#line 5 \"a.w\"\n\n1\n/*:2*/\n#line 4 \"a.w\"\n;\n/*:1*/\n")
    × (output (codes "@ Z.\n" ++ one_use) Program
    ≡ codes "/*2:*/\n#line 3 \"a.w\"\n\nint x= /*3:*/\n#line 5 \"a.w\"\n\n1\n/*:3*/\n#line 4 \"a.w\"\n;\n/*:2*/\n")
    × (output (codes "@ A.\n@d N 10\n@c\n@h\nint x=N;") Program
    ≡ codes "/*1:*/\n#line 3 \"a.w\"\n\n\n#define N 10\n\n#line 4 \"a.w\"\n\nint x=N;\n/*:1*/\n")
    × (output joined Program ≡ codes "/*1:*/\n#line 2 \"a.w\"\n\nab;\n#line 5 \"a.w\"\nc;\n/*:1*/\n")
    -- an abbreviation that resolves to two names: its uses give no symbols of a name, and no other name is used
    × (output (early ++ codes "\n@ @<Init table@>=") Program ≡ codes "/*1:*/\n#line 2 \"a.w\"\n\n \n#line 3 \"a.w\"\n\n/*:1*/\n")
    × (output early Program
    ≡ codes "/*1:*/\n#line 2 \"a.w\"\n\n /*2:*/\n#line 4 \"a.w\"\n\nx=0;\n/*:2*/\n#line 3 \"a.w\"\n\n/*:1*/\n")
    × (output (two_names (codes "@<A@>")) (Named (codes "h.h")) ≡ codes "/*4:*/\n#line 8 \"a.w\"\n\nint h;\n/*:4*/\n")
    × (output (two_names (codes "b;")) Program
    ≡ codes "/*1:*/\n#line 2 \"a.w\"\n\n /*2:*/\n#line 4 \"a.w\"\n\n /*3:*/\n#line 6 \"a.w\"\n\nb;\n"
    ++ codes "/*:3*/\n#line 5 \"a.w\"\n\n/*:2*/\n#line 3 \"a.w\"\n\n/*:1*/\n")
unfolding lexeme tokens_from occurrences_from digits
outputs = (refl, refl, refl, refl, refl, refl, refl, refl, refl, refl)

abbrev cyclic_uses : Title → Title → Type 0
cyclic_uses = Uses (shapes_in (two_names (codes "@<A@>")))

cyclic_names : ContainsItself cyclic_uses (Named (codes "A")) × ContainsItself cyclic_uses (Named (codes "B"))
unfolding lexeme tokens_from occurrences_from digits
cyclic_names = (
  (Named (codes "B"), here_in (codes "B") [], on (here_in (codes "A") []) here),
  (Named (codes "A"), here_in (codes "A") [], on (here_in (codes "B") []) here),
)

-- names that each use the next one twice: the `j`-th before the last weighs 15 * 2 ^ j - 9
abbrev doubling : List ℕ
doubling = codes "@ @<a@>=\n@<b@>@<b@>\n@ @<b@>=\n@<d@>@<d@>\n@ @<d@>=\n@<e@>@<e@>\n@ @<e@>=\n1"

limits : (limits_in one_part Program ≡ (11, 1))
    × (limits_in one_use Program ≡ (20, 2)) × (limits_in one_use (Named (codes "v")) ≡ (6, 1))
    × (map (λ name. limits_in doubling (Named (name ∷ []))) (codes "edba")
    ≡ (15 * 2 ^ 0 - 9, 1) ∷ (15 * 2 ^ 1 - 9, 2) ∷ (15 * 2 ^ 2 - 9, 3) ∷ (15 * 2 ^ 3 - 9, 4) ∷ [])
unfolding lexeme tokens_from occurrences_from
limits = (refl, refl, refl, refl)

-- a macro over several lines, and one that ends in a backslash
macros : ((numbers_in (codes "@ A.\n@d F(x) x\n  +1\n\n@d 3\n@c\ny")).macros ≡ codes "#define F(x) x\\\n+1\n")
    × ((numbers_in (codes "@ A.\n@d N 1 \\\n@d M 2\n@c\ny")).macros ≡ codes "#define N 1\n#define M 2\n")
unfolding lexeme tokens_from occurrences_from digits
macros = (refl, refl)

-- the classes of a join over a line end: the `b` and the sign after it are in a stretch, which ends at the next mark
abbrev class_byte : ByteClass → ℕ
class_byte (OfItem origin false) = 48 + origin.line
class_byte (OfItem origin true) = 97 + origin.line
class_byte (LineFeed border) = 10
class_byte (Other border) = 32

joined_classes : map class_byte (classes 1001 (source joined) (web joined) Program)
    ≡ 32 ∷ 32 ∷ 10 ∷ (48 + 3) ∷ (97 + 4) ∷ (97 + 4) ∷ 32 ∷ (48 + 5) ∷ (48 + 5) ∷ 10 ∷ 32 ∷ []
unfolding lexeme tokens_from occurrences_from digits
joined_classes = refl
