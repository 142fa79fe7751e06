-- Reading goes past lines that no change takes and that are no inclusions.
use Rattle.std.proofs.Common.{rules}
use Rattle.std.proofs.Common.{◌≡◌, ℕ, ◌+◌, Bool, List, [], ◌∷◌, ◌++◌, ◌<◌, length, get_or, drop, None}
use Rattle.std.proofs.Common.{refl, append-nil, arith}
use Rattle.std.proofs.lemmas.List.{drop_more}
use Rattle.tangle_lines.specs.Change.{Change}
use Rattle.tangle_lines.specs.Reading.{WaitingLine, SourceLine, change_here, waiting_lines}
use Rattle.tangle_lines.specs.Waiting.{IsUnchanged, PassesOn, awaited}
use Rattle.tangle_lines.proofs.ReadingLemmas.{at, step_out}

abbrev pub line_of : WaitingLine → SourceLine
line_of w = record { bytes = w.bytes; origin = w.origin; changed = w.changed }

-- a source line more was taken from the lines of a file, after which more lines wait
pub passes-next : (cs : List Change) (old lines more : List SourceLine) (waiting : List WaitingLine)
    (file : ℕ) (changed : Bool) (depth read i : ℕ)
    (file_lines : List (List ℕ)) (rest : List WaitingLine) (w : WaitingLine)
    → w ≡ record {
      bytes = get_or file_lines i [];
      origin = record { file = file; line = read + i + 1 };
      changed = changed;
      depth = depth;
    }
    → i < length file_lines → more ≡ lines ++ line_of w ∷ [] → IsUnchanged (awaited cs w.changed) w.bytes
    → PassesOn cs old waiting i lines (waiting_lines file changed depth (read + i + 1) (drop i file_lines) ++ rest)
    → PassesOn cs old waiting (i + 1) more
    (waiting_lines file changed depth (read + (i + 1) + 1) (drop (i + 1) file_lines) ++ rest)
passes-next cs old lines more waiting file changed depth read i file_lines rest w is inside pushed here before
    files change_file faults t h =
    let next = waiting_lines file changed depth (read + (i + 1) + 1) (drop (i + 1) file_lines) ++ rest in
    let unchanged : None ≡ change_here cs w = search rules in
    let same : t + (i + 1) ≡ t + i + 1 = omega arith in
    rw (same, pushed)
    (rw append-nil
    at (step_out files change_file _ lines faults _ cs (t + i)
    (before files change_file faults t (omega arith)) w next (search (rules, drop_more)) (record { lines = line_of w ∷ []; faults = [] }) (at next cs (t + i + 1))
    (rw (← unchanged, ← here.plain) refl) (omega arith)))
