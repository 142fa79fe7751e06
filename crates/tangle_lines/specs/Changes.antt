-- The changes of a change file, by recursion on its lines.
use Rattle.std.specs.Prelude.{ℕ, ◌+◌, ◌==◌, List, [], ◌∷◌, ◌++◌, if◌then◌else◌}
use Rattle.std.specs.List.{list_all}
use Rattle.tangle_faults.specs.declared.faults.FaultKind.{FaultKind}
use Rattle.tangle_faults.specs.declared.faults.FaultKind.TheVariants.{StrayMark, MissingY, MissingZ}
use Rattle.tangle_faults.specs.declared.faults.FaultKind.TheVariants.{EmptyOld}
use Rattle.tangle_lines.specs.Bytes.{at_sign, letter_x, letter_y, letter_z, is_white, is_letter}
use Rattle.tangle_lines.specs.Change.{Change}
use Rattle.tangle_lines.specs.declared.changes.ChangeLine.{ChangeLine}
use Rattle.tangle_lines.specs.declared.changes.ChangePhase.{ChangePhase}
use Rattle.tangle_lines.specs.declared.changes.ChangePhase.TheVariants.{Outside, InOld, InNew}
use Rattle.tangle_lines.specs.declared.changes.LineKind.{LineKind}
use Rattle.tangle_lines.specs.declared.changes.LineKind.TheVariants.{BeginsChange, BeginsNew}
use Rattle.tangle_lines.specs.declared.changes.LineKind.TheVariants.{EndsChange, IsText}
use Rattle.tangle_faults.specs.Faults.{FaultRead, fault_at}

-- the kind of a line of a change file
abbrev pub line_kind_of : List ℕ → LineKind
line_kind_of [] = IsText
line_kind_of (a ∷ []) = IsText
line_kind_of (a ∷ b ∷ bs) =
    if a == at_sign
    then (if is_letter letter_x b then BeginsChange
    else if is_letter letter_y b then BeginsNew
    else if is_letter letter_z b then EndsChange
    else IsText)
    else IsText

-- the changes and the faults that were found
pub record Found : Type 0 where
  pub changes : List Change
  pub faults : List FaultRead

abbrev pub nothing_found : Found
nothing_found = record { changes = []; faults = [] }

abbrev pub before : Found → Found → Found
before first rest =
    record { changes = first.changes ++ rest.changes; faults = first.faults ++ rest.faults }

-- a change whose `@x` line was just read
abbrev pub begun : ℕ → Change
begun n = record { at = n; old_lines = []; new_lines = [] }

-- a finished change; without old lines it is dropped
abbrev pub closed_by : List (List ℕ) → Change → List Change
closed_by [] c = []
closed_by (o ∷ os) c = c ∷ []

abbrev pub closed : Change → List Change
closed c = closed_by c.old_lines c

module _ (file : List ℕ) where
  abbrev pub fault_found : FaultKind → ℕ → Found
  fault_found kind n =
      record { changes = []; faults = fault_at kind (record { file = file; line = n }) ∷ [] }

  -- the fault at the end of the old lines, if there are none
  abbrev pub old_ended : ℕ → List (List ℕ) → Found
  old_ended at [] = fault_found EmptyOld at
  old_ended at (o ∷ os) = nothing_found

  -- the old lines with one more; blank lines directly after the `@x` line are skipped
  -- A change that began at a blank line would match almost anywhere.
  abbrev pub with_old : List (List ℕ) → List ℕ → List (List ℕ)
  with_old [] line = if list_all is_white line then [] else line ∷ []
  with_old (o ∷ os) line = (o ∷ os) ++ line ∷ []

  -- a fault, and the changes that end with it
  abbrev pub fault_with : FaultKind → ℕ → List Change → Found
  fault_with kind n changes =
      record { changes = changes; faults = fault_at kind (record { file = file; line = n }) ∷ [] }

  -- the phase after the line with the number `n`, and the change and the fault that end with this
  -- line
  abbrev pub next_phase : ChangePhase → ℕ → List ℕ → LineKind → ChangePhase × Found
  next_phase Outside n line BeginsChange = (InOld (begun n), nothing_found)
  next_phase Outside n line BeginsNew = (Outside, fault_found StrayMark n)
  next_phase Outside n line EndsChange = (Outside, fault_found StrayMark n)
  next_phase Outside n line IsText = (Outside, nothing_found)
  next_phase (InOld c) n line BeginsChange = (InOld (begun n), fault_found MissingY c.at)
  next_phase (InOld c) n line BeginsNew = (InNew c, old_ended c.at c.old_lines)
  next_phase (InOld c) n line EndsChange = (Outside, fault_found MissingY c.at)
  next_phase (InOld c) n line IsText =
      (InOld (record c { old_lines = with_old c.old_lines line }), nothing_found)
  next_phase (InNew c) n line BeginsChange = (InOld (begun n), fault_with MissingZ c.at (closed c))
  next_phase (InNew c) n line BeginsNew = (InNew c, fault_found StrayMark n)
  next_phase (InNew c) n line EndsChange = (Outside, record { changes = closed c; faults = [] })
  next_phase (InNew c) n line IsText =
      (InNew (record c { new_lines = c.new_lines ++ (n, line) ∷ [] }), nothing_found)

  -- the same for a line with its number and its kind
  abbrev pub phase_after : ChangePhase → ChangeLine → ChangePhase × Found
  phase_after phase line = next_phase phase line.number line.line.now line.kind

  -- the change and the fault at the end of the change file
  abbrev pub at_end : ChangePhase → Found
  at_end Outside = nothing_found
  at_end (InOld c) = fault_found MissingY c.at
  at_end (InNew c) = fault_with MissingZ c.at (closed c)

  abbrev pub changes_from : ChangePhase → ℕ → List (List ℕ) → Found
  changes_from phase n [] = at_end phase
  changes_from phase n (line ∷ lines) =
      before (next_phase phase n line (line_kind_of line)).1
      (changes_from (next_phase phase n line (line_kind_of line)).0 (n + 1) lines)

  -- the changes of the change file with these lines, and its faults in the order in which they are
  -- found
  abbrev pub changes_of : List (List ℕ) → Found
  changes_of lines = changes_from Outside 1 lines
