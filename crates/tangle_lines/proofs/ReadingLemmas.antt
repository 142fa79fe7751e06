-- Each step of reading takes a line, so the bound allows all steps.
use Rattle.std.proofs.Common.{rules}
use Rattle.std.proofs.Common.{◌≡◌, ℕ, zero, suc, ◌+◌, ◌-◌, ◌<◌, ◌≤◌, List, [], ◌∷◌}
use Rattle.std.proofs.Common.{◌++◌, length, min, drop, None, Some, refl, arith}
use Rattle.std.proofs.Common.{append_assoc, append-nil}
use Rattle.tangle_faults.specs.declared.faults.FaultKind.TheVariants.{SourceTooLong}
use Rattle.tangle_faults.specs.Faults.{fault_at, FaultRead}
use Rattle.std.proofs.lemmas.Bool.{lt-ltb, le-ltb}
use Rattle.tangle_files.specs.Lines.{FileTable}
use Rattle.tangle_lines.specs.Change.{Change}
use Rattle.tangle_lines.specs.Waiting.{IsPlain}
use Rattle.tangle_lines.specs.ReadingLaw.{ReadsByStep}
use Rattle.tangle_lines.specs.Reading.{WaitingLine, SourceLine, Reads, place_of, State, ReadingStep, step_of, line_step}
use Rattle.tangle_lines.specs.Reading.{change_here, unused_faults, after, reads_in, reads_from}
use Rattle.tangle_lines.specs.Reading.{source_line_limit, before_reads, change_lines, mismatch_faults, change_place}
use Rattle.tangle_lines.specs.Reading.{unequal_lines}
use Rattle.tangle_lines.specs.Reading.ReadingStep.{Ends, Goes}

-- a step ends reading, or is below the limit and takes a line
abbrev Advances : ℕ → ReadingStep → Type 0
Advances taken (Ends faults) = Unit {0}
Advances taken (Goes out s) = (taken < source_line_limit) × (taken < s.taken)

module _ (files : FileTable) (change_file : ℕ) where
  step_of-advances : (ws : List WaitingLine) (cs : List Change) (t : ℕ)
      → Advances t (step_of files change_file ws cs t)
  step_of-advances ws cs t = search rules

  after-same : (t : ℕ) (st : ReadingStep) (f g : State → Reads) → Advances t st
      → ((s : State) → t < source_line_limit → t < s.taken → f s ≡ g s)
      → after files change_file st f ≡ after files change_file st g
  after-same t st f g a same = search rules

  -- as many steps as there are lines below the limit are enough
  reads_in-enough : (n m : ℕ) (s : State) → source_line_limit - s.taken < n → source_line_limit - s.taken < m
      → reads_in files change_file n s ≡ reads_in files change_file m s
  unfolding reads_in
  reads_in-enough zero m s h k = absurd (omega arith)
  reads_in-enough (suc n) zero s h k = absurd (omega arith)
  reads_in-enough (suc n) (suc m) s h k =
      after-same s.taken _ _ _ (step_of-advances s.waiting s.changes s.taken)
      (λ next below more. reads_in-enough n m next (omega arith) (omega arith))

  -- reading makes one step, and then reads on
  pub reads_from-step : (s : State) → ReadsByStep files change_file s
  unfolding reads_in
  reads_from-step s =
      after-same s.taken _ _ _ (step_of-advances s.waiting s.changes s.taken)
      (λ next below more. reads_in-enough (source_line_limit - s.taken) (suc (source_line_limit - next.taken)) next
      (omega arith) (omega arith))

pub before_reads-append : (a b c : Reads) → before_reads (before_reads a b) c ≡ before_reads a (before_reads b c)
before_reads-append a b c = search (rules, append_assoc)

abbrev pub at : List WaitingLine → List Change → ℕ → State
at lines changes taken = record { waiting = lines; changes = changes; taken = taken }

-- while reading goes on, the results so far and those of the lines that wait are the whole result
module _ (files : FileTable) (change_file : ℕ) (start : Reads) (lines : List SourceLine)
    (faults : List FaultRead) (waiting : List WaitingLine) (changes : List Change) (t : ℕ)
    (so_far : before_reads (record { lines = lines; faults = faults })
    (reads_from files change_file (at waiting changes t))
    ≡ start) where
  step : before_reads (record { lines = lines; faults = faults })
      (after files change_file (step_of files change_file waiting changes t) (λ s. reads_from files change_file s))
      ≡ start
  step = rw (← reads_from-step files change_file (at waiting changes t)) so_far

  pub so_far-end : waiting ≡ []
      → start ≡ record { lines = lines; faults = faults ++ unused_faults files change_file changes }
  so_far-end none = rw (← step, none, append-nil) refl

  module _ (w : WaitingLine) (ws : List WaitingLine) (first : waiting ≡ w ∷ ws) where
    pub so_far-stop : source_line_limit ≤ t
        → start ≡ record { lines = lines; faults = faults ++ fault_at SourceTooLong (place_of files w.origin) ∷ [] }
    so_far-stop h = rw (← step, first, le-ltb t source_line_limit h, append-nil) refl

    -- a step gives more, and reading goes on in the state after it
    pub step_out : (more : Reads) (s : State)
        → line_step files change_file w ws changes t (change_here changes w) ≡ Goes more s → t < source_line_limit
        → before_reads (before_reads (record { lines = lines; faults = faults }) more) (reads_from files change_file s)
        ≡ start
    step_out more s is h = rw (before_reads-append, ← step, first, lt-ltb t source_line_limit h, is) refl

    pub so_far-plain : (ws' : List WaitingLine) (lines' : List SourceLine) (faults' : List FaultRead)
        → t < source_line_limit → None ≡ change_here changes w
        → IsPlain files w ws ws' lines lines' faults faults'
        → before_reads (record { lines = lines'; faults = faults' })
        (reads_from files change_file (at ws' changes (t + 1)))
        ≡ start
    so_far-plain ws' lines' faults' h none made =
        rw (made.waiting, made.read, made.found) (step_out _ _ (rw (← none) refl) h)

    pub so_far-used : (c : Change) (ws' : List WaitingLine) (faults' : List FaultRead) (n : ℕ)
        → t < source_line_limit → Some c ≡ change_here changes w
        → n ≡ min (length c.old_lines) (length (w ∷ ws))
        → ws' ≡ change_lines change_file w.depth c.new_lines ++ drop n (w ∷ ws)
        → faults' ≡ faults
        ++ mismatch_faults (change_place files change_file c) (unequal_lines (drop 1 c.old_lines) ws)
        → before_reads (record { lines = lines; faults = faults' })
        (reads_from files change_file (at ws' (drop 1 changes) (t + n)))
        ≡ start
    so_far-used c ws' faults' n h some count waits adds =
        rw (waits, adds, count, ← append-nil lines) (step_out _ _ (rw (← some) refl) h)
