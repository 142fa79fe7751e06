-- Worked webs: the full names in order, what each occurrence resolves to, and the faults.
use Rattle.std.proofs.Common.{◌≡◌, ℕ, false, None, Some, List, [], ◌∷◌, ◌+◌, ◌++◌, refl}
use Rattle.std.specs.Prelude.{codes}
use Rattle.tangle_faults.specs.declared.faults.FaultKind.TheVariants as kind
use Rattle.tangle_faults.specs.Faults.{FaultRead, fault_about}
use Rattle.tangle_lines.specs.Reading.{SourceLine}
use Rattle.tangle_lexer.specs.Steps.{lexeme, occurrences_from}
use Rattle.tangle_scan.specs.Web.{WebRead, web_of}
use Rattle.tangle_names.specs.declared.Resolved.TheVariants.{Name, Ambiguous}
use Rattle.tangle_names.specs.Faults.{name_faults}
use Rattle.tangle_names.specs.NameTable.{TableRead, table_of}

-- the source lines of the file `a.w`, from a line number on
abbrev numbered_lines : ℕ → List (List ℕ) → List SourceLine
numbered_lines n [] = []
numbered_lines n (text ∷ texts) =
    record { bytes = text; origin = record { file = 0; line = n }; changed = false } ∷ numbered_lines (n + 1) texts

-- the web with these lines
abbrev web : List (List ℕ) → WebRead
web texts = web_of (record { files = (codes "a.w", texts) ∷ []; lines = numbered_lines 1 texts; faults = [] })

-- the table of this web, and its faults of names
abbrev named : List (List ℕ) → TableRead × List FaultRead
named texts = (table_of (web texts), name_faults (web texts))

abbrev with_abbreviation : List (List ℕ)
with_abbreviation = codes "@ A." ∷ codes "@c" ∷ codes "@<Ini...@>" ∷ codes "@ @<Initialize@>=" ∷ codes "x=0;" ∷ []

-- an abbreviation of two full names
ambiguous : named (with_abbreviation ++ codes "@ @<Init table@>=" ∷ []) ≡ (
  record {
    names = codes "Initialize" ∷ codes "Init table" ∷ [];
    resolved = Ambiguous ∷ Name 0 ∷ Name 1 ∷ [];
    first_occurrences = 1 ∷ 2 ∷ [];
    first_file_occurrences = None ∷ None ∷ [];
  },
  fault_about kind.Ambiguous (record { file = codes "a.w"; line = 3 }) (codes "Ini...") ∷ [],
)
unfolding lexeme occurrences_from
ambiguous = refl

-- a file's name, first used without `@(` and abbreviated
file_used_first : named (codes "@ A." ∷ codes "@c" ∷ codes "@<a...@>@<u@>" ∷ codes "@ @(a.h@>=" ∷ codes "@(a.h@>" ∷ [])
    ≡ (
      record {
        names = codes "a.h" ∷ codes "u" ∷ [];
        resolved = Name 0 ∷ Name 1 ∷ Name 0 ∷ Name 0 ∷ [];
        first_occurrences = 0 ∷ 1 ∷ [];
        first_file_occurrences = Some 2 ∷ None ∷ [];
      },
      [],
    )
unfolding lexeme occurrences_from
file_used_first = refl
