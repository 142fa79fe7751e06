-- No line that is read has a line feed in it.
use Rattle.std.proofs.Common.{rules}
use Rattle.std.proofs.Common.{arith}
use Rattle.std.proofs.Common.{ℕ, zero, suc, ◌+◌, Bool, List, [], ◌∷◌, refl, Option, None, Some}
use Rattle.std.specs.Prelude.{◌&&◌, not}
use Rattle.std.specs.List.{AllByRecursion}
use Rattle.std.proofs.lemmas.Bool.{cond_both}
use Rattle.tangle_files.specs.Lines.{FileTable, trimmed, raw_lines, cut}
use Rattle.tangle_files.specs.Lines.{lines_at}
use Rattle.tangle_files.specs.Roles.{RolesRead}
use Rattle.tangle_lines.specs.Change.{Change}
use Rattle.tangle_lines.specs.declared.changes.ChangePhase.{ChangePhase}
use Rattle.tangle_lines.specs.declared.changes.ChangePhase.TheVariants.{Outside, InOld, InNew}
use Rattle.tangle_lines.specs.declared.changes.LineKind.{LineKind}
use Rattle.tangle_lines.specs.Changes.{line_kind_of, next_phase, changes_from}
use Rattle.tangle_lines.specs.Inclusion.{included_name}
use Rattle.tangle_lines.specs.Reading.{SourceLine, WaitingLine, waiting_lines, change_lines, begins, change_here}
use Rattle.tangle_lines.specs.Reading.{State, ReadingStep, plain_step, line_step}
use Rattle.tangle_lines.specs.Reading.{reads_in, source_of}
use Rattle.tangle_lines.specs.Reading.ReadingStep.{Ends, Goes}
use Rattle.tangle_c_tokens.specs.LineFeeds.{TextHasNoLineFeed, SourceLinesHaveNoLineFeed, FileLinesHaveNoLineFeed}
use Rattle.std.proofs.lemmas.Bool.Decides.{nat_tests}
use Rattle.tangle_c_tokens.proofs.ListLemmas.{all-append, all-drop, all-each, all-map}

-- the lines that bytes are cut into

pub trimmed-has : (line : List ℕ) → TextHasNoLineFeed line → TextHasNoLineFeed (trimmed line)
trimmed-has [] h = refl
trimmed-has (b ∷ bs) h = grind (arith, nat_tests, trimmed-has bs)

raw-have : (bytes : List ℕ) → AllByRecursion TextHasNoLineFeed (raw_lines bytes)
raw-have [] = tt
raw-have (b ∷ bs) = grind (arith, nat_tests, raw-have bs)

pub cut_have : (bytes : List ℕ) → AllByRecursion TextHasNoLineFeed (cut bytes)
cut_have bytes =
    all-map TextHasNoLineFeed trimmed (raw_lines bytes)
    (all-each _ _ (raw_lines bytes) trimmed-has (raw-have bytes))

-- What is true of each line of each file, with its number, is true of the lines that are read.
module _ (P : ℕ → List ℕ → Type 0) where
  -- the lines, of which the first has this number
  abbrev pub AreNumbered : ℕ → List (List ℕ) → Type 0
  AreNumbered n [] = Unit {0}
  AreNumbered n (l ∷ ls) = P n l × AreNumbered (n + 1) ls

  abbrev AreWaiting : List WaitingLine → Type 0
  AreWaiting ws = AllByRecursion (λ w. P w.origin.line w.bytes) ws

  abbrev HasLines : Change → Type 0
  HasLines c = AllByRecursion (λ l. P l.0 l.1) c.new_lines

  abbrev HaveLines : List Change → Type 0
  HaveLines cs = AllByRecursion HasLines cs

  abbrev AreRead : List SourceLine → Type 0
  AreRead ls = AllByRecursion (λ l. P l.origin.line l.bytes) ls

  waiting-are : (file : ℕ) (changed : Bool) (depth n : ℕ) (ls : List (List ℕ)) → AreNumbered n ls
      → AreWaiting (waiting_lines file changed depth n ls)
  waiting-are file changed depth n [] h = tt
  waiting-are file changed depth n (l ∷ ls) h = (h.0, waiting-are file changed depth (n + 1) ls h.1)

  new-are : (file depth : ℕ) (ls : List (ℕ × List ℕ)) → AllByRecursion (λ l. P l.0 l.1) ls → AreWaiting (change_lines file depth ls)
  new-are file depth [] h = tt
  new-are file depth (l ∷ ls) h = (h.0, new-are file depth ls h.1)

  -- the changes of a change file

  abbrev IsPhase : ChangePhase → Type 0
  IsPhase Outside = Unit {0}
  IsPhase (InOld c) = HasLines c
  IsPhase (InNew c) = HasLines c

  phase-has : (file : List ℕ) (phase : ChangePhase) (n : ℕ) (line : List ℕ) (kind : LineKind) → IsPhase phase → P n line
      → IsPhase (next_phase file phase n line kind).0 × HaveLines (next_phase file phase n line kind).1.changes
  phase-has file phase n line kind h of_line = search (rules, all-append)

  changes-have : (file : List ℕ) (phase : ChangePhase) (n : ℕ) (ls : List (List ℕ)) → IsPhase phase → AreNumbered n ls
      → HaveLines (changes_from file phase n ls).changes
  changes-have file phase n [] h all = search rules
  changes-have file phase n (l ∷ ls) h all =
      let next = phase-has file phase n l (line_kind_of l) h all.0 in
      let later = changes-have file (next_phase file phase n l (line_kind_of l)).0 (n + 1) ls in
      search (rules, all-append, next, later)

  -- reading

  abbrev IsState : State → Type 0
  IsState s = AreWaiting s.waiting × HaveLines s.changes

  abbrev IsStep : ReadingStep → Type 0
  IsStep (Ends faults) = Unit {0}
  IsStep (Goes out s) = AreRead out.lines × IsState s

  module _ (files : FileTable) (change_file : ℕ) (all : (n : ℕ) → AreNumbered 1 (lines_at files n)) where
    plain-is : (w : WaitingLine) (ws : List WaitingLine) (cs : List Change) (taken : ℕ) (name : Option (List ℕ))
        → P w.origin.line w.bytes → AreWaiting ws → HaveLines cs → IsStep (plain_step files w ws cs taken name)
    plain-is w ws cs taken name h hs k = search (rules, all-append, waiting-are)

    line-is : (w : WaitingLine) (ws : List WaitingLine) (cs : List Change) (taken : ℕ) → P w.origin.line w.bytes → AreWaiting ws
        → HaveLines cs → IsStep (line_step files change_file w ws cs taken (change_here cs w))
    line-is w ws [] taken h hs k = plain-is w ws [] taken (included_name w.bytes) h hs tt
    line-is w ws (c ∷ cs) taken h hs k =
        cond_both (not w.changed && begins c.old_lines w.bytes) (Some c) None
        (λ change. IsStep (line_step files change_file w ws (c ∷ cs) taken change))
        (search (rules, all-append, new-are, all-drop))
        (λ e. plain-is w ws (c ∷ cs) taken (included_name w.bytes) h hs k)

    reads-are : (n : ℕ) (s : State) → IsState s → AreRead (reads_in files change_file n s).lines
    unfolding reads_in
    reads-are zero s h = tt
    reads-are (suc n) s h = grind (arith, nat_tests, line-is, reads-are n)

  pub source-lines : (files : FileTable) (roles : RolesRead) → ((n : ℕ) → AreNumbered 1 (lines_at files n))
      → AreRead (source_of files roles).lines
  source-lines files roles all = search (rules, reads-are, waiting-are, changes-have)

abbrev AreClear : ℕ → List (List ℕ) → Type 0
AreClear n ls = AreNumbered (λ n l. TextHasNoLineFeed l) n ls

pub source_clear : (files : FileTable) (roles : RolesRead) → FileLinesHaveNoLineFeed files
    → SourceLinesHaveNoLineFeed (source_of files roles).lines
source_clear files roles clear = source-lines (λ n l. TextHasNoLineFeed l) files roles (at files clear)
  where
    all : (n : ℕ) (ls : List (List ℕ)) → AllByRecursion TextHasNoLineFeed ls → AreClear n ls
    all n [] h = tt
    all n (l ∷ ls) h = (h.0, all (n + 1) ls h.1)

    at : (files : FileTable) → FileLinesHaveNoLineFeed files → (n : ℕ) → AreClear 1 (lines_at files n)
    at [] h n = tt
    at (f ∷ files) h zero = all 1 f.1 h.0
    at (f ∷ files) h (suc n) = at files h.1 n
