-- Worked webs: their output files and faults are as expected.
use Rattle.std.proofs.Common.{◌≡◌, ℕ, zero, suc, List, [], ◌∷◌, ◌++◌, Option, None, Some, rules}
use Rattle.std.specs.Prelude.{codes}
use Rattle.std.specs.Fmt.{digits}
use Rattle.tangle_faults.specs.declared.faults.FaultKind.{FaultKind}
use Rattle.tangle_faults.specs.declared.faults.FaultKind.TheVariants.{ChangeMismatch, ChangeUnused, EmptyOld, StrayMark}
use Rattle.tangle_faults.specs.declared.faults.FaultKind.TheVariants.{MissingY, MissingZ, IncludeNoName, IncludeMissing}
use Rattle.tangle_faults.specs.declared.faults.FaultKind.TheVariants.{IncludeTooDeep}
use Rattle.tangle_faults.specs.declared.faults.FaultKind.TheVariants.{CodeInC, MisplacedH, MacroName, ControlText}
use Rattle.tangle_faults.specs.declared.faults.FaultKind.TheVariants.{StringAt, StringEnd, VerbatimEnd, AsciiBad}
use Rattle.tangle_faults.specs.declared.faults.FaultKind.TheVariants.{CommentEnd, NameEnd, NameEquals, NoFullName}
use Rattle.tangle_faults.specs.declared.faults.FaultKind.TheVariants.{PrefixName, Undefined, Unused, FileClash, FileTwice, NoProgram}
use Rattle.tangle_files.specs.Lines.{FileTable, cut}
use Rattle.tangle_faults.specs.Faults.{FaultRead, PlaceRead, fault_at, fault_about, fault_counting, fault_unplaced}
use Rattle.tangle_lines.specs.Reading.{reads_in}
use Rattle.tangle_lexer.specs.Steps.{tokens_from, lexeme, occurrences_from}
use Rattle.tangle_files.specs.Roles.{RolesRead, roles_of}
use Rattle.tangle_files.specs.declared.marks.MarkMode.TheVariants.{Bare}
use Rattle.tangle_expansion.specs.Limits.{levels, heaviest}
use Rattle.tangle_graph.specs.Cycles.{contains_itself, reaches_cycle}
use Rattle.tangle_graph.specs.PlainForms.{plain_form}
use Rattle.tangle_session.specs.Headline.{faults_at, output_files, source_at, web_at}

-- the faults and the output files
abbrev FaultsAndFiles : Type 0
FaultsAndFiles = List FaultRead × List (List ℕ × List ℕ)

-- what tangling gives
abbrev tangle_of : FileTable → RolesRead → FaultsAndFiles
tangle_of files roles = (faults_at files roles, output_files files roles)

-- tangling these files, whose web is `a.w`; a web alone; and a web with a change file
abbrev tangled_files : FileTable → FaultsAndFiles
tangled_files files = tangle_of files (roles_of (codes "a.w") None (codes "a.c"))

abbrev tangled_web : List ℕ → FaultsAndFiles
tangled_web web = tangled_files ((codes "a.w", cut web) ∷ [])

abbrev tangled_change : List ℕ → List ℕ → FaultsAndFiles
tangled_change web change =
    tangle_of ((codes "a.w", cut web) ∷ (codes "a.ch", cut change) ∷ [])
    (roles_of (codes "a.w") (Some (codes "a.ch")) (codes "a.c"))

abbrev gives : List FaultRead → List ℕ → FaultsAndFiles
gives faults bytes = (faults, (codes "a.c", bytes) ∷ [])

abbrev line_of : List ℕ → ℕ → PlaceRead
line_of file n = record { file = file; line = n }

abbrev line : ℕ → PlaceRead
line n = line_of (codes "a.w") n

abbrev on : ℕ → FaultKind → FaultRead
on n kind = fault_at kind (line n)

-- the roles, with each line mark written as a line feed
abbrev without_marks : List ℕ → Option (List ℕ) → List ℕ → RolesRead
without_marks web change out = record (roles_of web change out) { marks = Bare }

abbrev times : ℕ → List ℕ → List ℕ
times zero bytes = []
times (suc n) bytes = bytes ++ times n bytes

-- a section, a web without lines, changes of lines, and inclusions
record AreWorked : Type 0 where
  pub one_section : tangled_web (codes "@ A.\n@c\nint x;\n") ≡ gives [] (codes "/*1:*/\n#line 2 \"a.w\"\n\nint x;\n/*:1*/\n")
  pub no_lines : tangled_web [] ≡ gives (fault_unplaced NoProgram ∷ []) []
  pub a_line_changed : tangled_change (codes "@ A.\n@c\nint a;\nint b;\n") (codes "@x\nint a;\n@y\nint z;\n@z\n")
      ≡ gives [] (codes "/*1:*/\n#line 2 \"a.w\"\n\n#line 4 \"a.ch\"\nint z;\n#line 4 \"a.w\"\nint b;\n/*:1*/\n")
  pub a_line_changed_without_marks : tangle_of
      ((codes "a.w", cut (codes "@ A.\n@c\nint a;\nint b;\n"))
      ∷ (codes "a.ch", cut (codes "@x\nint a;\n@y\nint z;\n@z\n")) ∷ [])
      (without_marks (codes "a.w") (Some (codes "a.ch")) (codes "a.c"))
      ≡ gives [] (codes "/*1:*/\n\nint z;\nint b;\n/*:1*/\n")
  pub a_use_without_marks : tangle_of ((codes "a.w", cut (codes "@ A.\n@c\nint x=@<v@>;\n@ @<v@>=\n1\n")) ∷ [])
      (without_marks (codes "a.w") None (codes "a.c"))
      ≡ gives [] (codes "/*1:*/\n\nint x= /*2:*/\n\n1\n/*:2*/\n;\n/*:1*/\n")
  pub a_line_mismatched : tangled_change (codes "@ A.\n@c\nint a;\nint b;\n") (codes "@x\nint a;\nint c;\n@y\nint z;\n@z\n")
      ≡ gives (fault_counting ChangeMismatch (line_of (codes "a.ch") 1) 1 ∷ [])
      (codes "/*1:*/\n#line 2 \"a.w\"\n\n#line 5 \"a.ch\"\nint z;\n/*:1*/\n")
  pub an_inclusion_changed : tangled_change (codes "@i none.w\n@ A.\n@c\nx\n") (codes "@x\n@i none.w\n@y\n@z\n")
      ≡ gives [] (codes "/*1:*/\n#line 3 \"a.w\"\n\nx\n/*:1*/\n")
  pub an_inclusion_of_itself : tangled_files
      ((codes "a.w", cut (codes "@ A.\n@c\n@i b.w\n")) ∷ (codes "b.w", cut (codes "x\n@i b.w\n")) ∷ [])
      ≡ gives (fault_at IncludeTooDeep (line_of (codes "b.w") 2) ∷ [])
      (codes "/*1:*/\n#line 2 \"a.w\"\n" ++ times 9 (codes "\n#line 1 \"b.w\"\nx") ++ codes "\n/*:1*/\n")
  pub a_change_unused : tangled_change (codes "@ A.\n@c\nint x;\n") (codes "@x\nint q;\n@y\n@z\n")
      ≡ gives (fault_at ChangeUnused (line_of (codes "a.ch") 1) ∷ [])
      (codes "/*1:*/\n#line 2 \"a.w\"\n\nint x;\n/*:1*/\n")
  pub a_change_without_old_lines : tangled_change (codes "@ A.\n@c\nint x;\n") (codes "@x\n\n@y\nint z;\n@z\n")
      ≡ gives (fault_at EmptyOld (line_of (codes "a.ch") 1) ∷ []) (codes "/*1:*/\n#line 2 \"a.w\"\n\nint x;\n/*:1*/\n")
  pub change_codes_out_of_place : tangled_change (codes "@ A.\n@c\nint x;\n")
      (codes "@z\n@x\nint x;\n@x\nint x;\n@y\n@y\nint y;\n")
      ≡ gives (fault_at StrayMark (line_of (codes "a.ch") 1) ∷ fault_at MissingY (line_of (codes "a.ch") 2)
      ∷ fault_at StrayMark (line_of (codes "a.ch") 7) ∷ fault_at MissingZ (line_of (codes "a.ch") 4) ∷ [])
      (codes "/*1:*/\n#line 2 \"a.w\"\n\n#line 8 \"a.ch\"\nint y;\n/*:1*/\n")
  pub inclusions_without_file : tangled_web (codes "@i\n@i \"n.w\" x\n@ A.\n@c\nx\n")
      ≡ gives (fault_at IncludeNoName (line 1) ∷ fault_about IncludeMissing (line 2) (codes "n.w") ∷ [])
      (codes "/*1:*/\n#line 4 \"a.w\"\n\nx\n/*:1*/\n")
  -- the text of C parts and macros
  pub macros_at_an_h : tangled_web (codes "@ A.\n@d N 10\n@c\n@h\nint x=N;\n")
      ≡ gives [] (codes "/*1:*/\n#line 3 \"a.w\"\n\n\n#define N 10\n\n#line 4 \"a.w\"\n\nint x=N;\n/*:1*/\n")
  pub a_join_over_lines : tangled_web (codes "@ A.\n@c\na@&\nb;\nc;\n")
      ≡ gives [] (codes "/*1:*/\n#line 2 \"a.w\"\n\nab;\n#line 5 \"a.w\"\nc;\n/*:1*/\n")
  pub a_quoted_text_that_does_not_end : tangled_web (codes "@ A.\n@c\ns=\"a@b\nt;\n")
      ≡ gives (on 3 StringAt ∷ on 3 StringEnd ∷ []) (codes "/*1:*/\n#line 2 \"a.w\"\n\ns=\"a@b\nt;\n/*:1*/\n")
  pub comments_and_constants : tangled_web
      (codes "@ A.\n@c\na /* b */ c // d\nreturn@,x+@'A';@^idx@>\n\"q@@\"@=v@> @t\\TeX@>z\n")
      ≡ gives [] (codes "/*1:*/\n#line 2 \"a.w\"\n\na c\nreturn x+65;\n\"q@\"v z\n/*:1*/\n")
  pub macros_over_lines : tangled_web (codes "@ A.\n@d F(x) x\n  +1\n\n@d 3\n@c\ny\n")
      ≡ gives (on 5 MacroName ∷ []) (codes "#define F(x) x\\\n+1\n/*1:*/\n#line 6 \"a.w\"\n\ny\n/*:1*/\n")
  pub uses_side_by_side : tangled_web (codes "@ A.\n@c\n@<u@>@<u@>\n")
      ≡ gives (fault_about Undefined (line 3) (codes "u") ∷ [])
      (codes "/*1:*/\n#line 2 \"a.w\"\n\n \n#line 3 \"a.w\"\n \n#line 3 \"a.w\"\n\n/*:1*/\n")
  pub control_codes_out_of_place : tangled_web (codes "@ A.\n@d M @h 1\n@c\n@d x @'ab' y\n@^q@,z\n@=v\n/* w\n@ B.\n")
      ≡ gives
      (on 2 MisplacedH ∷ on 4 CodeInC ∷ on 4 AsciiBad ∷ on 5 ControlText ∷ on 6 VerbatimEnd ∷ on 8 CommentEnd ∷ [])
      (codes "#define M 1\n/*1:*/\n#line 3 \"a.w\"\n\nx y\nz\nv\n\n/*:1*/\n")
  pub quoted_texts_over_lines : tangled_web (codes "@ A.\n@c\ns=\"a\\\nb\";@=u@@v@>\n#include <p@@q>\n")
      ≡ gives [] (codes "/*1:*/\n#line 2 \"a.w\"\n\ns=\"a\\\nb\";u@v\n#include <p@q>\n/*:1*/\n")
  -- names, and bytes of other codes
  pub names_that_do_not_fit : tangled_web (codes "@ A @<In it@>.\n@c\n@<  In   @>@<Zz...@>\n@<b@>=\n@<q\n@ B.\n")
      ≡ gives (on 4 NameEquals ∷ on 6 NameEnd ∷ fault_about NoFullName (line 3) (codes "Zz...")
      ∷ fault_about PrefixName (line 3) (codes "In")
      ∷ fault_about Undefined (line 3) (codes "In") ∷ fault_about Undefined (line 4) (codes "b")
      ∷ fault_about Undefined (line 5) (codes "q") ∷ [])
      (codes
      "/*1:*/\n#line 2 \"a.w\"\n\n \n#line 3 \"a.w\"\n \n#line 3 \"a.w\"\n\n \n#line 4 \"a.w\"\n=\n \n#line 6 \"a.w\"\n/*:1*/\n")
  pub other_bytes : tangled_web (codes "@ A.\n@c\ncaf" ++ 0xE9 ∷ 0 ∷ codes "=1 \t\r\n")
      ≡ gives [] (codes "/*1:*/\n#line 2 \"a.w\"\n\ncaf" ++ 0xE9 ∷ 0 ∷ codes "=1\n/*:1*/\n")
  pub names_are_escaped : tangle_of ((codes "a\"b\\c", cut (codes "@ A.\n@c\nx\n")) ∷ [])
      (roles_of (codes "a\"b\\c") None (codes "a.c"))
      ≡ gives [] (codes "/*1:*/\n#line 2 \"a\\\"b\\\\c\"\n\nx\n/*:1*/\n")
  pub a_use_of_a_name : tangled_web (codes "@ A.\n@c\nint x=@<v@>;\n@ @<v@>=\n1\n")
      ≡ gives []
      (codes "/*1:*/\n#line 2 \"a.w\"\n\nint x= /*2:*/\n#line 4 \"a.w\"\n\n1\n/*:2*/\n#line 3 \"a.w\"\n;\n/*:1*/\n")
  pub a_named_file : tangled_web (codes "@ A.\n@(h.h@>=\n@<I...@>\n@ @<In@>=\n1\n@ @<u@>=\n@h\n")
      ≡ (
        fault_about Unused (line 6) (codes "u") ∷ fault_unplaced NoProgram ∷ [],
        (codes "a.c", []) ∷ (
          codes "h.h",
          codes "/*1:*/\n#line 2 \"a.w\"\n\n /*2:*/\n#line 4 \"a.w\"\n\n1\n/*:2*/\n#line 3 \"a.w\"\n\n/*:1*/\n",
        ) ∷ [],
      )
  pub two_names_of_one_file : tangled_web (codes "@ A.\n@(./h.h@>=\n1\n@ @(h.h@>=\n2\n@ @(/../a@>=\n@ @(.//a.c@>=\n3\n")
      ≡ (
        fault_about FileClash (line 7) (codes ".//a.c") ∷ fault_about FileTwice (line 4) (codes "h.h")
            ∷ fault_unplaced NoProgram ∷ [],
        (codes "a.c", []) ∷ (codes "./h.h", codes "/*1:*/\n#line 2 \"a.w\"\n\n1\n/*:1*/\n")
            ∷ (codes "/../a", codes "/*3:*/\n#line 6 \"a.w\"\n\n/*:3*/\n") ∷ [],
      )

worked : AreWorked
unfolding faults_at contains_itself reaches_cycle source_at web_at reads_in tokens_from lexeme occurrences_from levels heaviest digits plain_form
worked = search rules
