-- Reading: the source lines and the faults of files, a web and a change file.
use Rattle.std.specs.Prelude.{ℕ, ◌+◌, ◌-◌, Bool, true, false, ◌==◌, ◌&&◌, not, nat_lt, min, get_or}
use Rattle.std.specs.Prelude.{length, drop, List, [], ◌∷◌, ◌++◌, if◌then◌else◌, suc, zero, Option}
use Rattle.std.specs.Prelude.{None, Some, ◌≤◌}
use Rattle.std.specs.Str.{bytes_eq}
use Rattle.tangle_faults.specs.declared.faults.FaultKind.TheVariants.{IncludeNoName, IncludeMissing}
use Rattle.tangle_faults.specs.declared.faults.FaultKind.TheVariants.{IncludeTooDeep}
use Rattle.tangle_faults.specs.declared.faults.FaultKind.TheVariants.{ChangeMismatch, SourceTooLong}
use Rattle.tangle_faults.specs.declared.faults.FaultKind.TheVariants.{ChangeUnused}
use Rattle.tangle_lines.specs.declared.origin.Origin.{Origin}
use Rattle.tangle_files.specs.Adding.{longest_line}
use Rattle.tangle_files.specs.Lines.{FileTable, file_number, file_number_or_count, name_at}
use Rattle.tangle_files.specs.Lines.{lines_at}
use Rattle.tangle_files.specs.Roles.{RolesRead}
use Rattle.tangle_faults.specs.Faults.{PlaceRead, FaultRead, fault_at, fault_about, fault_counting}
use Rattle.tangle_lines.specs.Change.{Change}
use Rattle.tangle_lines.specs.Changes.{Found, nothing_found, changes_of}
use Rattle.tangle_lines.specs.Inclusion.{included_name}

-- the most files that may be open at once, the web included
abbrev pub depth_limit : ℕ
depth_limit = 10

-- the most lines that are read
abbrev pub source_line_limit : ℕ
source_line_limit = 2000000

-- the place of an origin
abbrev pub place_of : FileTable → Origin → PlaceRead
place_of files origin = record { file = name_at files origin.file; line = origin.line }

-- a line that waits to be read; it is changed if it is from the change file, or from a file that a
-- changed line includes
-- If such a file's lines were not, a change could be used within the new lines of another.
pub record WaitingLine : Type 0 where
  pub bytes : List ℕ
  pub origin : Origin
  pub changed : Bool
  pub depth : ℕ

-- a source line
pub record SourceLine : Type 0 where
  pub bytes : List ℕ
  pub origin : Origin
  pub changed : Bool

-- a line has at most 65,535 bytes
abbrev pub IsShort : SourceLine → Type 0
IsShort line = length line.bytes ≤ longest_line

-- the result of reading: source lines, and the faults of the change file and of reading
pub record Reads : Type 0 where
  pub lines : List SourceLine
  pub faults : List FaultRead

abbrev pub before_reads : Reads → Reads → Reads
before_reads first rest =
    record { lines = first.lines ++ rest.lines; faults = first.faults ++ rest.faults }

-- the lines of a file, the first of which has the number `n`
abbrev pub waiting_lines : ℕ → Bool → ℕ → ℕ → List (List ℕ) → List WaitingLine
waiting_lines file changed depth n [] = []
waiting_lines file changed depth n (l ∷ ls) =
    record {
      bytes = l;
      origin = record { file = file; line = n };
      changed = changed;
      depth = depth;
    } ∷ waiting_lines file changed depth (n + 1) ls

-- the new lines of a change
abbrev pub change_lines : ℕ → ℕ → List (ℕ × List ℕ) → List WaitingLine
change_lines file depth [] = []
change_lines file depth (l ∷ ls) =
    record {
      bytes = l.1;
      origin = record { file = file; line = l.0 };
      changed = true;
      depth = depth;
    } ∷ change_lines file depth ls

-- the line equals the first old line of a change
abbrev pub begins : List (List ℕ) → List ℕ → Bool
begins [] line = false
begins (o ∷ os) line = bytes_eq line o

-- the next change, if it is used at this line
abbrev pub change_here : List Change → WaitingLine → Option Change
change_here [] w = None
change_here (c ∷ cs) w = if not w.changed && begins c.old_lines w.bytes then Some c else None

-- 1 if there is no line for the old line, or one that differs; else 0
abbrev pub unequal_front : List ℕ → List WaitingLine → ℕ
unequal_front o [] = 1
unequal_front o (w ∷ ws) = if bytes_eq w.bytes o then 0 else 1

-- the number of old lines for which there is no line, or one that differs
abbrev pub unequal_lines : List (List ℕ) → List WaitingLine → ℕ
unequal_lines [] ws = 0
unequal_lines (o ∷ os) ws = unequal_front o ws + unequal_lines os (drop 1 ws)

abbrev pub mismatch_faults : PlaceRead → ℕ → List FaultRead
mismatch_faults place n = if n == 0 then [] else fault_counting ChangeMismatch place n ∷ []

-- the state of reading: the lines that wait, the changes that are not yet used, and the number of
-- lines taken
pub record State : Type 0 where
  pub waiting : List WaitingLine
  pub changes : List Change
  pub taken : ℕ

-- one step of reading: it ends, or it gives source lines and faults and a state in which reading
-- goes on
pub data ReadingStep : Type 0 where
  Ends : List FaultRead → ReadingStep
  Goes : Reads → State → ReadingStep

module _ (files : FileTable) where
  -- the lines of the included file with this name and number, or the first fault that applies
  -- A missing file comes first: its author can add it, and the depth shows at the next run.
  abbrev pub included : WaitingLine → List ℕ → Option ℕ → (List WaitingLine × List FaultRead)
  included w name None = ([], fault_about IncludeMissing (place_of files w.origin) name ∷ [])
  included w name (Some n) =
      if nat_lt w.depth depth_limit
      then (waiting_lines n w.changed (w.depth + 1) 1 (lines_at files n), [])
      else ([], fault_at IncludeTooDeep (place_of files w.origin) ∷ [])

  abbrev pub inclusion : WaitingLine → List ℕ → (List WaitingLine × List FaultRead)
  inclusion w [] = ([], fault_at IncludeNoName (place_of files w.origin) ∷ [])
  inclusion w (b ∷ bs) = included w (b ∷ bs) (file_number files (b ∷ bs))

  -- what a line gives that no change takes, and the lines that wait in its place: it becomes a
  -- source line, or is replaced by the file that it includes
  abbrev pub plain : WaitingLine → Option (List ℕ) → (Reads × List WaitingLine)
  plain w None =
      let line : SourceLine = record { bytes = w.bytes; origin = w.origin; changed = w.changed } in
      (record { lines = line ∷ []; faults = [] }, [])
  plain w (Some name) = (record { lines = []; faults = (inclusion w name).1 }, (inclusion w name).0)

  abbrev pub plain_step : WaitingLine → List WaitingLine → List Change → ℕ → Option (List ℕ)
      → ReadingStep
  plain_step w ws changes taken name =
      let s : State =
      record { waiting = (plain w name).1 ++ ws; changes = changes; taken = taken + 1 } in
      Goes (plain w name).0 s

module _ (files : FileTable) (change_file : ℕ) where
  -- the place of a change
  abbrev pub change_place : Change → PlaceRead
  change_place c = place_of files (record { file = change_file; line = c.at })

  -- the fault of the first remaining change, which was not used
  abbrev pub unused_faults : List Change → List FaultRead
  unused_faults [] = []
  unused_faults (c ∷ cs) = fault_at ChangeUnused (change_place c) ∷ []

  -- a used change takes as many lines as it has old lines, and its new lines wait instead
  abbrev pub change_step : Change → List Change → WaitingLine → List WaitingLine → ℕ → ReadingStep
  change_step c cs w ws taken =
      let lines = min (length c.old_lines) (length (w ∷ ws)) in
      Goes (record {
        lines = [];
        faults = mismatch_faults (change_place c) (unequal_lines (drop 1 c.old_lines) ws);
      })
      (record {
        waiting = change_lines change_file w.depth c.new_lines ++ drop lines (w ∷ ws);
        changes = cs;
        taken = taken + lines;
      })

  -- a change that is used at a line comes before inclusion
  abbrev pub line_step : WaitingLine → List WaitingLine → List Change → ℕ → Option Change
      → ReadingStep
  line_step w ws changes taken None = plain_step files w ws changes taken (included_name w.bytes)
  line_step w ws changes taken (Some c) = change_step c (drop 1 changes) w ws taken

  -- reading ends when no line waits, or at the limit
  abbrev pub step_of : List WaitingLine → List Change → ℕ → ReadingStep
  step_of [] changes taken = Ends (unused_faults changes)
  step_of (w ∷ ws) changes taken =
      if nat_lt taken source_line_limit then line_step w ws changes taken (change_here changes w)
      else Ends (fault_at SourceTooLong (place_of files w.origin) ∷ [])

  -- the results of a step, and then those of the rest
  abbrev pub after : ReadingStep → (State → Reads) → Reads
  after (Ends faults) rest = record { lines = []; faults = faults }
  after (Goes out s) rest = before_reads out (rest s)

  -- reading by at most this many steps
  unfoldable pub reads_in : ℕ → State → Reads
  reads_in zero s = record { lines = []; faults = [] }
  reads_in (suc n) s = after (step_of s.waiting s.changes s.taken) (λ t. reads_in n t)

  -- reading to its end: each step takes at least one line, and the step at the limit is the last,
  -- so this number of steps is enough (`reads_from-step` in proofs/ReadingLemmas)
  abbrev pub reads_from : State → Reads
  reads_from s = reads_in (suc (source_line_limit - s.taken)) s

-- reading the web with these changes; `change` is the number of the change file
abbrev pub reads_web : FileTable → ℕ → ℕ → Found → Reads
reads_web files web change found =
    before_reads (record { lines = []; faults = found.faults })
    (reads_from files change (record {
      waiting = waiting_lines web false 1 1 (lines_at files web);
      changes = found.changes;
      taken = 0;
    }))

-- the number of the change file, if there is one
abbrev pub change_number : FileTable → Option (List ℕ) → ℕ
change_number files None = 0
change_number files (Some name) = file_number_or_count files name

-- the changes and the faults of the change file, if there is one
abbrev pub changes_in : FileTable → Option (List ℕ) → Found
changes_in files None = nothing_found
changes_in files (Some name) = changes_of (name_at files (file_number_or_count files name))
    (lines_at files (file_number_or_count files name))

-- the result of reading the files, by the names of the web and the change file
abbrev pub reads : FileTable → List ℕ → Option (List ℕ) → Reads
reads files web change = reads_web files (file_number_or_count files web)
    (change_number files change) (changes_in files change)

-- a source: the files, its lines and its faults
pub record SourceRead : Type 0 where
  pub files : FileTable
  pub lines : List SourceLine
  pub faults : List FaultRead

abbrev pub with_files : FileTable → Reads → SourceRead
with_files files r = record { files = files; lines = r.lines; faults = r.faults }

-- the source of these files and roles
abbrev pub source_of : FileTable → RolesRead → SourceRead
source_of files roles = with_files files (reads files roles.web roles.change)

-- the line that is read where a source has no line of this number
abbrev pub no_line : SourceLine
no_line = record { bytes = []; origin = record { file = 0; line = 0 }; changed = false }

-- the source line with this number, from 0
abbrev pub line_at : List SourceLine → ℕ → SourceLine
line_at lines number = get_or lines number no_line

-- the origin of the source line with this number
abbrev pub origin_at : List SourceLine → ℕ → Origin
origin_at lines number = (line_at lines number).origin
