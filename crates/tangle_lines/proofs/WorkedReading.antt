-- Worked sources: the lines that are read, with their origins, and the faults.
use Rattle.std.proofs.Common.{rules}
use Rattle.std.proofs.Common.{◌≡◌, ℕ, false, List, [], ◌∷◌, ◌++◌, Some, codes, flat_map}
use Rattle.std.specs.Fmt.{digits}
use Rattle.std.specs.Prelude.{if◌then◌else◌}
use Rattle.tangle_faults.specs.FaultLine.{fault_line, place_bytes}
use Rattle.tangle_files.specs.Lines.{FileTable, cut}
use Rattle.tangle_lines.specs.Change.{Change}
use Rattle.tangle_lines.specs.Reading.{Reads, SourceLine, WaitingLine, place_of, reads, reads_from, reads_in}

-- a web, a change file and two files that may be included
abbrev files : List ℕ → List ℕ → FileTable
files web changes =
    (codes "a", cut web) ∷ (codes "h", cut changes)
    ∷ (codes "b", cut (codes "p\nq")) ∷ (codes "c", cut (codes "@i b\nr")) ∷ []

-- a source line as text: its origin, a `*` if it is changed, and its bytes
abbrev line_shown : SourceLine → List ℕ
line_shown line =
    place_bytes (place_of (files [] []) line.origin) ++ (if line.changed then codes "*" else [])
    ++ line.bytes ++ codes "\n"

-- the source lines, and then the faults
abbrev reads_shown : Reads → List ℕ
reads_shown r = flat_map line_shown r.lines ++ flat_map fault_line r.faults

abbrev source : List ℕ → List ℕ → List ℕ
source web changes = reads_shown (reads (files web changes) (codes "a") (Some (codes "h")))

record Examples : Type 0 where
  pub inclusion_in_an_inclusion : source (codes "@i c\nx\n") []
      ≡ codes "b:1: p\nb:2: q\nc:2: r\na:2: x\n"
  -- only the first unused change is looked for
  pub changes_in_order : source (codes "s\nt\ns\n") (codes "@x\nt\n@y\n1\n@z\n@x\ns\n@y\n2\n@z\n")
      ≡ codes "a:1: s\nh:4: *1\nh:9: *2\n"
  -- a change takes an inclusion, and lines beyond the end of an included file
  pub taken : source (codes "@i b\n@i d\nx\n") (codes "@x\nq\n@i d\n@y\n1\n@z\n")
      ≡ codes "b:1: p\nh:5: *1\na:3: x\n"
  -- a line that differs, and an old line that has none
  pub mismatch : source (codes "s\nt\nx\n") (codes "@x\ns\nt\ny\nz\n@y\n@z\n")
      ≡ codes "h:1: error: old lines that do not match: 2\n"
  -- no change is used at new lines, nor at those that they include
  pub changed_lines : source (codes "s\n") (codes "@x\ns\n@y\nq\n@i b\n@z\n@x\nq\n@y\n@z\n")
      ≡ codes "h:4: *q\nb:1: *p\nb:2: *q\nh:7: error: change never used\n"
  -- the faults of the change file come first, and only the first unused change has one
  pub faults : source (codes "@i\n") (codes "@x\ns\n@y\n@z\n@x\nt\n@y\n@z\n@z\n")
      ≡ codes "h:9: error: @y or @z out of place\na:1: error: inclusion without a file name\n"
      ++ codes "h:1: error: change never used\n"

examples : Examples
unfolding reads_in digits
examples = search rules

-- a line of the web that waits at this depth, and two of them
abbrev waits : ℕ → ℕ → List ℕ → WaitingLine
waits depth n bytes =
    record { bytes = bytes; origin = record { file = 0; line = n }; changed = false; depth = depth }

abbrev two : ℕ → ℕ → List WaitingLine
two first second = waits first 1 (codes "s") ∷ waits second 2 (codes "t") ∷ []

-- a change with these old lines and one new line
abbrev change : List ℕ → List ℕ → List Change
change old new = record { at = 1; old_lines = cut old; new_lines = (4, new) ∷ [] } ∷ []

-- what reading gives after this number of lines
abbrev after : ℕ → List WaitingLine → List Change → List ℕ
after taken lines changes = reads_shown
    (reads_from (files [] []) 1 (record { waiting = lines; changes = changes; taken = taken }))

record Limits : Type 0 where
  pub ten_files : after 0 (waits 9 1 (codes "@i b") ∷ []) [] ≡ codes "b:1: p\nb:2: q\n"
  pub eleven_files : after 0 (waits 10 1 (codes "@i b") ∷ waits 9 2 (codes "x") ∷ []) []
      ≡ codes "a:2: x\na:1: error: inclusion too deep\n"
  pub missing_at_depth_10 : after 0 (waits 10 1 (codes "@i d") ∷ []) []
      ≡ codes "a:1: error: included file not found: d\n"
  -- new lines have the depth of the first line that is taken
  pub new_line_at_depth_10 : after 0 (two 10 9) (change (codes "s\nt") (codes "@i b"))
      ≡ codes "h:4: error: inclusion too deep\n"
  pub new_line_at_depth_9 : after 0 (two 9 10) (change (codes "s\nt") (codes "@i b")) ≡ codes "b:1: *p\nb:2: *q\n"
  pub last_line : after 1999999 (waits 1 1 (codes "x") ∷ []) [] ≡ codes "a:1: x\n"
  -- the limit ends reading, also where a change is not used
  pub line_too_many : after 1999999 (two 1 1) (change (codes "x") []) ≡ codes "a:1: s\na:2: error: too many lines\n"
  pub inclusion_counts : after 1999999 (waits 1 1 (codes "@i b") ∷ []) [] ≡ codes "b:1: error: too many lines\n"
  -- each line that a change takes counts, and new lines count when they are read
  pub taken_lines : after 1999998 (two 1 1) (change (codes "s\nt") (codes "n")) ≡ codes "h:4: error: too many lines\n"
  pub new_line : after 1999997 (two 1 1) (change (codes "s\nt") (codes "n")) ≡ codes "h:4: *n\n"

limits : Limits
unfolding reads_in digits
limits = search rules
