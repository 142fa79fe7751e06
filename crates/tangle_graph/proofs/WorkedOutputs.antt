-- Worked webs: their output files and the faults of their graph of names; and nodes at the limits.
use Rattle.std.proofs.Common.{arith, length-append, rules}
use Rattle.std.proofs.lemmas.List.{length-map}
use Rattle.std.proofs.Common.{◌≡◌, ℕ, ◌+◌, true, false, List, [], ◌∷◌, ◌++◌, None, codes}
use Rattle.std.proofs.Common.{flat_map, replicate, length, refl}
use Rattle.std.specs.Fmt.{digits}
use Rattle.std.specs.Prelude.{decimal, if◌then◌else◌}
use Rattle.tangle_faults.specs.FaultLine.{fault_line}
use Rattle.tangle_files.specs.Lines.{cut}
use Rattle.tangle_files.specs.Roles.{roles_of}
use Rattle.tangle_lines.specs.Reading.{reads_in, source_of}
use Rattle.tangle_lexer.specs.Steps.{lexeme, occurrences_from, tokens_from}
use Rattle.tangle_scan.specs.Web.{WebRead, web_of}
use Rattle.tangle_names.specs.NameTable.{table_of}
use Rattle.tangle_bodies.specs.Shapes.{Named, Program, Shapes, Use, Word, Written}
use Rattle.tangle_bodies.specs.Flat.{weight}
use Rattle.tangle_expansion.specs.Limits.{heaviest, levels}
use Rattle.tangle_expansion.specs.Outputs.{OutputRead}
use Rattle.tangle_graph.specs.Cycles.{contains_itself, reaches_cycle}
use Rattle.tangle_graph.specs.Faults.{graph_faults}
use Rattle.tangle_graph.specs.Outputs.{is_expandable, outputs}
use Rattle.tangle_graph.specs.PlainForms.{plain_form}

abbrev web : List ℕ → WebRead
web bytes = web_of (source_of ((codes "a", cut bytes) ∷ []) (roles_of (codes "a") None (codes "a.c")))

-- an output file as text: its name, its node, and whether it has the macros and a piece
abbrev output_shown : OutputRead → List ℕ
output_shown o =
    o.name ++ codes " " ++ decimal o.node ++ (if o.has_macros then codes " macros" else [])
    ++ (if o.has_piece then codes " pieces" else []) ++ codes "\n"

-- the output files of a web
abbrev files : List ℕ → List ℕ
files bytes = flat_map output_shown (outputs (web bytes) (table_of (web bytes)) (codes "a.c"))

-- the faults of its graph of names
abbrev faults : List ℕ → List ℕ
faults bytes = flat_map fault_line (graph_faults (web bytes) (table_of (web bytes)) (codes "a.c"))

-- two names that contain each other, a file, and a file that reaches them
abbrev cycle : List ℕ
cycle = codes "@ P.\n@c\n@<A@>\n@ @<A@>=\n@<B@>\n@ @<B@>=\n@<A@>\n@ @(h@>=\n1\n@ @(i@>=\n@<B@>\n"

record Made : Type 0 where
  -- in the order in which names are first opened by `@(`, also by a mention
  pub file_order : files (codes "@ @<b@> @(a@>.\n@c\nx\n@ @(b@>=\n1\n@ @<a@>=\n2\n")
      ≡ codes "a.c 0 macros pieces\na 2 pieces\nb 1 pieces\n"
  -- `@h` in a piece that is never used takes the macros from the front; a name without a piece is no file
  pub no_pieces : files (codes "@ @(n@>.\n@<u@>=\n@h\n") ≡ codes "a.c 0\n"
  pub macros_alone : files (codes "@ A.\n@d M 1\n") ≡ codes "a.c 0 macros\n"
  pub no_file_that_reaches_a_cycle : files cycle ≡ codes "h 3 pieces\n"
  -- at the first use, and not for a mention
  pub undefined : faults (codes "@ @<u@> @<v@>.\n@c\n@<u@>\n") ≡ codes "a:3: error: undefined: <u>\n"
  -- at the first occurrence
  pub unused : faults (codes "@ @<u@>.\n@c\nx\n@ @<u@>=\n1\n") ≡ codes "a:1: warning: never used: <u>\n"
  -- uses in a piece that is dropped count
  pub dropped : faults (codes "@ @<z...@>=\n@<u@>@<v@>\n@ @<u@>=\n1\n@ P.\n@c\nx\n")
      ≡ codes "a:2: error: undefined: <v>\n"
  pub order : faults (codes "@ @(a.c@>=\n1\n@ @(./h@>=\n@<n@>\n@ @(h@>=\n3\n@ @<u@>=\n4\n")
      ≡ codes "a:4: error: undefined: <n>\na:7: warning: never used: <u>\n"
      ++ codes "a:1: error: file name is the main file's: <a.c>\na:5: error: file has another name: <h>\n"
      ++ codes "warning: no program text\n"
  -- only what contains itself has a fault; what reaches it is not too large
  pub cycles : faults cycle ≡ codes "a:3: error: contains itself: <A>\na:5: error: contains itself: <B>\n"

made : Made
unfolding contains_itself reaches_cycle reads_in tokens_from lexeme occurrences_from levels heaviest plain_form digits
made = search rules

-- a name with one piece uses the name that is one byte shorter
abbrev chain : Shapes
chain Program = []
chain (Named []) = [] ∷ []
chain (Named (b ∷ name)) = (Use name ∷ []) ∷ []

-- the program has one word
abbrev word : List ℕ → Shapes
word bytes Program = (Written Word bytes ∷ []) ∷ []
word bytes (Named name) = []

word_weight : (bytes : List ℕ) → weight 1001 (word bytes) Program ≡ length bytes + 3
word_weight bytes = grind (arith, length-append, length-map)

record Limits : Type 0 where
  pub no_piece : is_expandable chain Program ≡ false
  pub deepest : is_expandable chain (Named (replicate 999 97)) ≡ true
  pub too_deep : is_expandable chain (Named (replicate 1000 97)) ≡ false
  pub heaviest_word : (bytes : List ℕ) → length bytes ≡ 16777213 → is_expandable (word bytes) Program ≡ true
  pub too_heavy : (bytes : List ℕ) → length bytes ≡ 16777214 → is_expandable (word bytes) Program ≡ false

limits : Limits
unfolding levels heaviest
limits = record {
  no_piece = refl;
  deepest = refl;
  too_deep = refl;
  heaviest_word = λ bytes h. rw (word_weight bytes, h) refl;
  too_heavy = λ bytes h. rw (word_weight bytes, h) refl;
}
