-- The open files as one list of the lines that wait, and how one step changes it.
use Rattle.std.specs.Prelude.{◌≡◌, ℕ, ◌+◌, ◌≤◌, Bool, false, if◌then◌else◌, Option, None, Some}
use Rattle.std.specs.Prelude.{slice_get, List, [], ◌∷◌, ◌++◌, length, map}
use Rattle.std.specs.Str.{bytes_eq}
use Rattle.tangle_lines.specs.declared.waiting.Rest.{Rest}
use Rattle.tangle_lines.specs.declared.waiting.Rest.TheVariants.{OfFile, OfChange}
use Rattle.tangle_files.specs.Lines.{FileTable}
use Rattle.tangle_files.specs.Adding.{most_lines}
use Rattle.tangle_faults.specs.Faults.{FaultRead}
use Rattle.tangle_lines.specs.Change.{Change}
use Rattle.tangle_lines.specs.Inclusion.{included_name}
use Rattle.tangle_lines.specs.Reading.{WaitingLine, SourceLine, waiting_lines}
use Rattle.tangle_lines.specs.Reading.{change_lines, plain, reads_from}
use Rattle.tangle_lines.specs.Reading.{before_reads, source_line_limit}

-- the lines of the open files, of which the last is read first
abbrev pub stacked : List (List WaitingLine) → List WaitingLine
stacked [] = []
stacked (f ∷ fs) = stacked fs ++ f

-- the lines of an open file that are not yet read
abbrev pub rest_lines : ℕ → Bool → ℕ → Rest → List WaitingLine
rest_lines file changed depth (OfFile lines read) =
    waiting_lines file changed depth (read + 1) lines.now
rest_lines file changed depth (OfChange lines) =
    change_lines file depth (map (λ l. (l.0, l.1.now)) lines.now)

-- a file has no more lines than the limit
abbrev pub IsWithinLimit : Rest → Type 0
IsWithinLimit (OfFile lines read) = read + length lines.now ≤ most_lines
IsWithinLimit (OfChange lines) = Unit {0}

-- a line was read that no change takes
pub record IsPlain (files : FileTable) (w : WaitingLine) (ws ws' : List WaitingLine)
    (lines lines' : List SourceLine) (faults faults' : List FaultRead) : Type 0 where
  pub waiting : ws' ≡ (plain files w (included_name w.bytes)).1 ++ ws
  pub read : lines' ≡ lines ++ (plain files w (included_name w.bytes)).0.lines
  pub found : faults' ≡ faults ++ (plain files w (included_name w.bytes)).0.faults

-- the first old line of the next change, if it may be used among these lines
abbrev pub awaited : List Change → Bool → Option (List ℕ)
awaited [] changed = None
awaited (c ∷ cs) changed = if changed then None else slice_get c.old_lines 0

abbrev pub is_awaited : Option (List ℕ) → List ℕ → Bool
is_awaited None line = false
is_awaited (Some old) line = bytes_eq line old

-- a line that becomes a source line as it is
pub record IsUnchanged (first : Option (List ℕ)) (line : List ℕ) : Type 0 where
  pub unawaited : is_awaited first line ≡ false
  pub plain : None ≡ included_name line

-- Reading takes `n` more lines, within the limit. The lines that were read, with those
-- that the waiting lines give, are the same before and after.
abbrev pub PassesOn : List Change → List SourceLine → List WaitingLine
    → ℕ → List SourceLine → List WaitingLine → Type 0
PassesOn changes lines ws n lines' ws' =
    (files : FileTable) (change_file : ℕ) (faults : List FaultRead) (t : ℕ)
    → t + n ≤ source_line_limit
    → before_reads (record { lines = lines'; faults = faults })
    (reads_from files change_file (record { waiting = ws'; changes = changes; taken = t + n }))
    ≡ before_reads (record { lines = lines; faults = faults })
    (reads_from files change_file (record { waiting = ws; changes = changes; taken = t }))
