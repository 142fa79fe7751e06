-- Where each included file is in the table, no name is missing.
use Rattle.std.proofs.lemmas.Bool.Decides.{nat_tests}
use Rattle.std.proofs.Common.{arith}
use Rattle.std.proofs.Common.{rules}
use Rattle.std.proofs.Common.{◌≡◌, ◌∙◌, ℕ, zero, suc, ◌+◌, Bool, false, List, []}
use Rattle.std.proofs.Common.{◌∷◌, ◌++◌, Option, Some, None, drop, refl, ap}
use Rattle.std.proofs.lemmas.Bool.{or_parts}
use Rattle.std.proofs.lemmas.List.Folds.{list_any-append}
use Rattle.std.specs.List.{list_any}
use Rattle.tangle_lines.specs.declared.changes.ChangePhase.{ChangePhase}
use Rattle.tangle_lines.specs.declared.changes.ChangePhase.TheVariants.{Outside, InOld, InNew}
use Rattle.tangle_lines.specs.declared.changes.LineKind.{LineKind}
use Rattle.tangle_faults.specs.Faults.{FaultRead, PlaceRead}
use Rattle.tangle_lines.specs.Inclusion.{included_name}
use Rattle.tangle_lines.specs.Change.{Change}
use Rattle.tangle_lines.specs.Changes.{Found, before, changes_from, line_kind_of, next_phase}
use Rattle.tangle_files.specs.Lines.{FileTable, file_number_or_count}
use Rattle.tangle_lines.specs.Reading.{WaitingLine, after, change_lines, change_number}
use Rattle.tangle_lines.specs.Reading.{change_step, changes_in}
use Rattle.tangle_lines.specs.Reading.{mismatch_faults, plain_step, reads_in}
use Rattle.tangle_lines.specs.Reading.{waiting_lines}
use Rattle.tangle_lines.specs.Reading.{ReadingStep, Reads, State, step_of}
use Rattle.tangle_lines.specs.Reading.ReadingStep.{Ends, Goes}
use Rattle.tangle_files.specs.Roles.{RolesRead}
use Rattle.tangle_loading.specs.Endings.{IncludesNoMissing, misses_file, misses_name}
use Rattle.tangle_loading.specs.Loading.{missed_in, missing_of}
use Rattle.tangle_loading.proofs.AskLemmas.{missed-append}

both_miss_none : (xs ys : List FaultRead) → missed_in xs ≡ [] → missed_in ys ≡ [] → missed_in (xs ++ ys) ≡ []
both_miss_none xs ys h k = missed-append xs ys ∙ ap (λ l. l ++ missed_in ys) h ∙ k

mismatch_misses_none : (place : PlaceRead) (n : ℕ) → missed_in (mismatch_faults place n) ≡ []
mismatch_misses_none place n = search rules

none_after : {A : Type 0} (p : A → Bool) (n : ℕ) (xs : List A) → list_any p xs ≡ false → list_any p (drop n xs) ≡ false
none_after p zero xs h = h
none_after p (suc n) [] h = refl
none_after p (suc n) (x ∷ xs) h = none_after p n xs (or_parts (p x) (list_any p xs) h).1

module _ (files : FileTable) (no_missing : IncludesNoMissing files) where
  abbrev misses_waiting : WaitingLine → Bool
  misses_waiting w = misses_file files w.bytes

  lines_miss_alike : (file : ℕ) (changed : Bool) (depth k : ℕ) (ls : List (List ℕ))
      → list_any misses_waiting (waiting_lines file changed depth k ls) ≡ list_any (misses_file files) ls
  lines_miss_alike file changed depth k [] = refl
  lines_miss_alike file changed depth k (l ∷ ls) = cc (lines_miss_alike file changed depth (k + 1) ls)

  -- the changes of a change file

  abbrev new_misses : Change → Bool
  new_misses change = list_any (λ (l : ℕ × List ℕ). misses_file files l.1) change.new_lines

  abbrev PhaseMissesNone : ChangePhase → Type 0
  PhaseMissesNone Outside = Unit {0}
  PhaseMissesNone (InOld change) = new_misses change ≡ false
  PhaseMissesNone (InNew change) = new_misses change ≡ false

  record IsFine (found : Found) : Type 0 where
    pub none : missed_in found.faults ≡ []
    pub named : list_any new_misses found.changes ≡ false

  fine_before : (first rest : Found) → IsFine first → IsFine rest → IsFine (before first rest)
  fine_before first rest h k = search (rules, both_miss_none, list_any-append)

  next_misses_none : (file : List ℕ) (phase : ChangePhase) (n : ℕ) (line : List ℕ) (kind : LineKind)
      → PhaseMissesNone phase → misses_file files line ≡ false
      → PhaseMissesNone (next_phase file phase n line kind).0 × IsFine (next_phase file phase n line kind).1
  next_misses_none file phase n line kind h none = search (rules, list_any-append)

  changes_fine : (file : List ℕ) (phase : ChangePhase) (n : ℕ) (lines : List (List ℕ))
      → PhaseMissesNone phase → list_any (misses_file files) lines ≡ false
      → IsFine (changes_from file phase n lines)
  changes_fine file phase n [] h none = search rules
  changes_fine file phase n (line ∷ lines) h none =
      let next = next_misses_none file phase n line (line_kind_of line) in
      let later = changes_fine file (next_phase file phase n line (line_kind_of line)).0 (n + 1) lines in
      search (rules, fine_before, or_parts, next, later)

  change_lines_miss_alike : (file depth : ℕ) (ls : List (ℕ × List ℕ))
      → list_any misses_waiting (change_lines file depth ls) ≡ list_any (λ (l : ℕ × List ℕ). misses_file files l.1) ls
  change_lines_miss_alike file depth [] = refl
  change_lines_miss_alike file depth (l ∷ ls) = cc (change_lines_miss_alike file depth ls)

  found_fine : (change : Option (List ℕ)) → IsFine (changes_in files change)
  found_fine None = record { none = refl; named = refl }
  found_fine (Some name) = search (rules, changes_fine)

  -- reading, with a change file of this number: no change and no line that waits misses a file
  module _ (file : ℕ) where
    abbrev IsClean : State → Type 0
    IsClean s = (list_any new_misses s.changes ≡ false) × (list_any misses_waiting s.waiting ≡ false)

    abbrev StepIsClean : ReadingStep → Type 0
    StepIsClean (Ends faults) = missed_in faults ≡ []
    StepIsClean (Goes out s) = (missed_in out.faults ≡ []) × IsClean s

    plain_is_clean : (w : WaitingLine) (ws : List WaitingLine) (cs : List Change) (t : ℕ) (name : Option (List ℕ))
        → misses_name files name ≡ false → list_any new_misses cs ≡ false → list_any misses_waiting ws ≡ false
        → StepIsClean (plain_step files w ws cs t name)
    plain_is_clean w ws cs t name here changes none =
        search (rules, list_any-append, lines_miss_alike, no_missing)

    change_is_clean : (c : Change) (w : WaitingLine) (ws : List WaitingLine) (cs : List Change) (t : ℕ)
        → new_misses c ≡ false → list_any new_misses cs ≡ false → list_any misses_waiting (w ∷ ws) ≡ false
        → StepIsClean (change_step files file c cs w ws t)
    change_is_clean c w ws cs t here changes none =
        search (rules, mismatch_misses_none, list_any-append, change_lines_miss_alike, none_after)

    step_is_clean : (ws : List WaitingLine) (cs : List Change) (t : ℕ)
        → list_any new_misses cs ≡ false → list_any misses_waiting ws ≡ false
        → StepIsClean (step_of files file ws cs t)
    step_is_clean [] [] t changes none = refl
    step_is_clean [] (c ∷ cs) t changes none = refl
    step_is_clean (w ∷ ws) [] t changes none =
        grind (arith, nat_tests, plain_is_clean w ws [] t (included_name w.bytes))
    step_is_clean (w ∷ ws) (c ∷ cs) t changes none =
        let plain = plain_is_clean w ws (c ∷ cs) t (included_name w.bytes) in
        grind (arith, nat_tests, plain, change_is_clean c w ws cs t)

    after_misses_none : (f : State → Reads) (step : ReadingStep) → StepIsClean step
        → ((s : State) → IsClean s → missed_in (f s).faults ≡ []) → missed_in (after files file step f).faults ≡ []
    after_misses_none f step h rest = search (rules, both_miss_none)

    reads_miss_none : (n : ℕ) (s : State) → IsClean s → missed_in (reads_in files file n s).faults ≡ []
    unfolding reads_in
    reads_miss_none zero s clean = refl
    reads_miss_none (suc n) s clean =
        after_misses_none (λ t. reads_in files file n t) (step_of files file s.waiting s.changes s.taken)
        (step_is_clean s.waiting s.changes s.taken clean.0 clean.1) (reads_miss_none n)

pub missing_is_empty : (files : FileTable) (roles : RolesRead) → IncludesNoMissing files → missing_of files roles ≡ []
unfolding missing_of
missing_is_empty files roles no_missing =
    let web = file_number_or_count files roles.web in
    let file = change_number files roles.change in
    let found = found_fine files no_missing roles.change in
    search (rules, both_miss_none, reads_miss_none, lines_miss_alike)
