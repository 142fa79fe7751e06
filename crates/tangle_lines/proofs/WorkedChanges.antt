-- Worked change files: their changes and faults.
use Rattle.std.proofs.Common.{rules}
use Rattle.std.proofs.Common.{◌≡◌, ℕ, List, ◌++◌, codes, flat_map}
use Rattle.std.specs.Fmt.{digits}
use Rattle.std.specs.Prelude.{decimal}
use Rattle.tangle_faults.specs.FaultLine.{fault_line}
use Rattle.tangle_files.specs.Lines.{cut}
use Rattle.tangle_lines.specs.Change.{Change}
use Rattle.tangle_lines.specs.Changes.{Found, changes_of}

-- a change as text: the line of its `@x`, its old lines, and its new lines with their numbers
abbrev change_shown : Change → List ℕ
change_shown c =
    codes "@x " ++ decimal c.at ++ codes "\n"
    ++ flat_map (λ old. codes "-" ++ old ++ codes "\n") c.old_lines
    ++ flat_map (λ new. codes "+" ++ decimal new.0 ++ codes " " ++ new.1 ++ codes "\n") c.new_lines

abbrev found_shown : Found → List ℕ
found_shown found = flat_map change_shown found.changes ++ flat_map fault_line found.faults

-- the changes of a change file with these bytes, and then its faults
abbrev changes : List ℕ → List ℕ
changes bytes = found_shown (changes_of (codes "h") (cut bytes))

record Examples : Type 0 where
  -- text outside of changes, after codes and, if it is blank, directly after `@x`
  pub commentary : changes (codes "a\n@x b\n\n \t\nc\n\n@y d\n\ne\n@z f\ng\n")
      ≡ codes "@x 2\n-c\n-\n+8 \n+9 e\n"
  pub capitals : changes (codes "@X\na\n@Y\nb\n@Z\n") ≡ codes "@x 1\n-a\n+4 b\n"
  pub end_of_old_part : changes (codes "@x\na\n@z\nb\n") ≡ codes "h:1: error: change without @y\n"
  pub end_of_file : changes (codes "@x\na\n") ≡ codes "h:1: error: change without @y\n"
  pub change_in_old_part : changes (codes "@x\na\n@x\nb\n@y\n@z\n")
      ≡ codes "@x 3\n-b\nh:1: error: change without @y\n"
  pub second_new_part : changes (codes "@x\na\n@y\nb\n@y\nc\n@z\n")
      ≡ codes "@x 1\n-a\n+4 b\n+6 c\nh:5: error: @y or @z out of place\n"
  pub change_in_new_part : changes (codes "@x\na\n@y\nb\n@x\nc\n@y\n@z\n")
      ≡ codes "@x 1\n-a\n+4 b\n@x 5\n-c\nh:1: error: change without @z\n"
  pub end_of_file_in_new_part : changes (codes "@x\na\n@y\nb\n")
      ≡ codes "@x 1\n-a\n+4 b\nh:1: error: change without @z\n"
  -- a change without old lines has the fault of its end, too
  pub two_faults : changes (codes "@x\n@y\na\n")
      ≡ codes "h:1: error: change without old lines\nh:1: error: change without @z\n"

examples : Examples
unfolding digits
examples = search rules
