-- One step of loading, and one after another.
use Rattle.std.proofs.Common.{rules}
use Rattle.std.proofs.Common.{◌≡◌, ◌∙◌, inl, inr, ℕ, ◌<◌, suc, Bool, false, cond, List, [], ◌∷◌}
use Rattle.std.proofs.Common.{◌++◌}
use Rattle.std.proofs.Common.{Option, Some, None, Ok, Err, ap, sym, refl, length, append_assoc, append-nil, arith}
use Rattle.std.proofs.Common.{replicate}
use Rattle.std.specs.Prelude.{IfSome, IsSomeAnd}
use Rattle.std.specs.Str.{bytes_eq}
use Rattle.std.specs.Global.{Global}
use Rattle.std.specs.declared.vec.Vec.{Vec}
use Rattle.std.proofs.lemmas.Bool.{cond-false, cond_both, or_parts}
use Rattle.std.proofs.lemmas.Bool.Decides.{nat_tests}
use Rattle.std.proofs.lemmas.List.{length-replicate}
use Rattle.std.proofs.lemmas.List.Folds.{list_any-append}
use Rattle.std.proofs.lemmas.List.Sums.{fold-append}
use Rattle.std.proofs.lemmas.Slice.Eq.{bytes_eq-Decides}
use Rattle.tangle_files.specs.Lines.{FileTable}
use Rattle.tangle_folders.specs.declared.folder.FolderFault.TheVariants.{Missing, TooBig}
use Rattle.tangle_folders.specs.Folder.{File, FolderRead, IsFileAnswer, file_bytes, file_limit, with_name_added}
use Rattle.tangle_loading.specs.Loading.{Contents, Load, LoadEnd, Loaded, add_answer, ask_all, rounds_after, so_far}
use Rattle.tangle_loading.specs.Loading.LoadEnd.{CannotRead, NoMemory}
use Rattle.tangle_loading.specs.Endings.{HasEndedEarly, EndsEarly, IsGiven, Stands, Step}
use Rattle.tangle_loading.specs.Endings.{WholeLoading}
use Rattle.tangle_loading.specs.Endings.{after_asking, after_failing}
use Rattle.tangle_loading.specs.Endings.EndsEarly.{HasFailed, IsItsEnd, IsShort}
use Rattle.tangle_loading.proofs.AskLemmas.{Extends, IsAsked, IsFresh, all_extend, ask_same, extend_more}
use Rattle.tangle_loading.proofs.AskLemmas.{missed_next, rounds_keep}

-- what a folder reports, by each of its clauses
pub folder_is : {new : FolderRead} {files created : Option (List File)} {asked failed : Option (List (List ℕ))}
    {failures : ℕ} → new.files ≡ files → new.created ≡ created → new.asked ≡ asked → new.failed ≡ failed
    → new.failures ≡ failures
    → new ≡ record { files = files; created = created; asked = asked; failed = failed; failures = failures }
folder_is f c a d n =
    λ i. record { files = f i; created = c i; asked = a i; failed = d i; failures = n i }

after_both : (start : FolderRead) (xs ys : List (List ℕ))
    → after_asking (after_asking start xs) ys ≡ after_asking start (xs ++ ys)
after_both start xs ys = ap (λ a. record start { asked = a }) (sym (fold-append with_name_added start.asked xs ys))

-- loading that ended early did so whatever it would have asked for later
pub later : (a b : Load) (old new : FolderRead) (ending : LoadEnd)
    → Extends a b → EndsEarly a old new ending → EndsEarly b old new ending
later a b old new ending x (IsItsEnd e is) = rw (x.ended ending e) (IsItsEnd e is)
later a b old new ending x (HasFailed front rest name split is which) =
    HasFailed front (rest ++ x.more) name (search (rules, append_assoc, x.asked)) is which
later a b old new ending x (IsShort front rest split is e) =
    IsShort front (rest ++ x.more) (search (rules, append_assoc, x.asked)) is e

-- contents that are as the folder reports
pub some_contents : (reported : Option (List File))
    → (contents : Contents) × IfSome reported (λ files. contents ≡ file_bytes files)
some_contents None = (λ name. None, tt)
some_contents (Some files) = (file_bytes files, refl)

-- loading that stands where it has ended
ends : {whole : WholeLoading} {needed : Bool} {names : List (List ℕ)} {mid new : FolderRead}
    {load : Load} {ending : LoadEnd}
    → Stands whole needed names mid load → EndsEarly load whole.start new ending
    → HasEndedEarly whole new ending
ends {whole = whole} {needed = needed} {names = names} {new = new} {load = load} {ending = ending} at early =
    let some = some_contents whole.start.files in
    let contents = at.known some.0 in
    let x = rounds_keep contents (Extends load) whole.roles (extend_more contents load false) whole.rounds _
    (all_extend contents needed names load) in
    (contents, at.knows.are_its some.0 some.1, rw (at.leads some.0) (later load _ whole.start new ending x early))

-- nothing more is asked for
pub step_same : {needed : Bool} {name : List ℕ} {old : FolderRead} {asked : List (List ℕ)} {files : FileTable}
    → IsAsked asked name → Step needed (name ∷ []) [] old (so_far asked (Ok files)) old (so_far asked (Ok files))
step_same {needed = needed} {name = name} {asked = asked} {files = files} is = record {
  to = λ whole later at. record {
    known = at.known;
    knows = at.knows;
    leads = λ c. search (rules, at.leads c, ask_same (at.known c) needed asked (Ok files) name is);
  };
}

pub step_begins : {needed : Bool} {names : List (List ℕ)} {old : FolderRead} {asked : List (List ℕ)} {files : FileTable}
    → Step needed names names old (so_far asked (Ok files)) old (so_far asked (Ok files))
step_begins = record { to = λ whole later at. at }

pub step_short : (needed : Bool) (names : List (List ℕ)) (old : FolderRead) (before : Load) (new : FolderRead)
    (now : List (List ℕ)) → new ≡ old → Step needed names [] old before new (so_far now (Err NoMemory))
step_short needed names old before new now same = record {
  to = λ whole later at. ends at (IsShort before.asked [] (sym (append-nil before.asked)) (same ∙ at.knows.folder) refl);
}

-- the first of the names that are left is asked for
pub step_next : {needed : Bool} {name : List ℕ} {names left : List (List ℕ)} {old mid new : FolderRead} {before : Load}
    {now : List (List ℕ)} {table : FileTable} {after : Load}
    → Step needed names (name ∷ left) old before mid (so_far now (Ok table))
    → Step needed (name ∷ []) [] mid (so_far now (Ok table)) new after
    → Step needed names left old before new after
step_next {left = left} first second = record {
  to = λ whole later at. second.to whole (left ++ later) (first.to whole later at);
}

-- contents in which the folder's answer about a name is put
abbrev with_answer : List ℕ → Option (List ℕ) → Contents → Contents
with_answer name answer contents other = cond (bytes_eq other name) answer (contents other)

with_its_answer : (name : List ℕ) (contents : Contents) → with_answer name (contents name) contents ≡ contents
with_its_answer name contents = search (rules, cond_both, bytes_eq-Decides)

-- what the folder answers about a name, if it reports its files
pub some_answer : (reported : Option (List File)) (name : List ℕ)
    → (answer : Option (List ℕ)) × IfSome reported (λ all. file_bytes all name ≡ answer)
some_answer None name = (None, tt)
some_answer (Some all) name = (file_bytes all name, refl)

its_answer : (reported : Option (List File)) (name : List ℕ) (answer : Option (List ℕ)) (contents : Contents)
    → IfSome reported (λ all. file_bytes all name ≡ answer) → IfSome reported (λ all. contents ≡ file_bytes all)
    → IfSome reported (λ all. with_answer name answer contents ≡ file_bytes all)
its_answer reported name answer contents says are = search (rules, with_its_answer)

-- the folder is asked for a name for which it was not asked before
module _ (needed : Bool) (name : List ℕ) (old : FolderRead) (asked : List (List ℕ)) (files : FileTable)
    (new : FolderRead) (fresh : IsFresh asked name) where
  answered : (answer : Option (List ℕ)) → IfSome old.files (λ all. file_bytes all name ≡ answer)
      → {whole : WholeLoading} {later : List (List ℕ)}
      → Stands whole needed (name ∷ later) old (so_far asked (Ok files))
      → Stands whole needed later (after_asking old (name ∷ []))
      (so_far (asked ++ name ∷ []) (add_answer needed files name answer))
  answered answer says {whole = whole} {later = later} at = record {
    known = λ c. at.known (with_answer name answer c);
    knows = record {
      folder = ap (λ f. after_asking f (name ∷ [])) at.knows.folder ∙ after_both whole.start asked (name ∷ []);
      are_its = λ c has. at.knows.are_its (with_answer name answer c) (its_answer whole.start.files name answer c
          (rw at.knows.folder at says) has);
      others = search (rules, or_parts, list_any-append, at.knows.others);
    };
    leads = λ c.
        let all = at.known (with_answer name answer c) in
        let is : all name ≡ answer = search (rules, at.knows.others, bytes_eq-Decides) in
        at.leads (with_answer name answer c)
        ∙ ap (λ l. rounds_after all whole.roles whole.rounds (ask_all all needed l later))
        (cond-false _ _ _ fresh ∙ ap (λ a. so_far (asked ++ name ∷ []) (add_answer needed files name a)) is);
  }

  -- a file is added, or there is none, or the table refuses it, or memory runs out
  pub step_answered : (answer : Option (List ℕ)) → IfSome old.files (λ all. file_bytes all name ≡ answer)
      → new ≡ after_asking old (name ∷ []) → (loaded : Loaded) → IsGiven (add_answer needed files name answer) loaded
      → Step needed (name ∷ []) [] old (so_far asked (Ok files)) new (so_far (asked ++ name ∷ []) loaded)
  step_answered answer says asks (Ok next) why =
      let e : Ok next ≡ add_answer needed files name answer = elim why [ inl e ↦ e | inr e ↦ absurd (cc) ] in
      record { to = λ whole later at. rw (asks, e) (answered answer says at) }
  step_answered answer says asks (Err ending) why = record {
    to = λ whole later at.
        let a = answered answer says at in
        ends a (elim why [
          | inl e ↦ IsItsEnd (sym e) (asks ∙ a.knows.folder)
          | inr e ↦ IsShort (asked ++ name ∷ []) [] (sym (append-nil (asked ++ name ∷ []))) (asks ∙ a.knows.folder) (cc)
        ]);
  }

  -- the folder failed
  pub step_failed : (ending : LoadEnd) → new ≡ after_failing (after_asking old (name ∷ [])) name
      → IsGiven (Err (CannotRead name)) (Err ending)
      → Step needed (name ∷ []) [] old (so_far asked (Ok files)) new (so_far (asked ++ name ∷ []) (Err ending))
  step_failed ending failing which = record {
    to = λ whole later at.
        let some = some_answer old.files name in
        let a = answered some.0 some.1 at in
        ends a (HasFailed asked [] name refl (failing ∙ ap (λ f. after_failing f name) a.knows.folder) which);
  }

pub is_found : (reported : Option (List File)) (name : List ℕ) (bytes : Vec ℕ Global)
    → IsFileAnswer reported name (Ok bytes) → IfSome reported (λ all. file_bytes all name ≡ Some bytes.items)
is_found reported name bytes h = search rules

pub is_absent : (reported : Option (List File)) (name : List ℕ)
    → IsFileAnswer reported name (Err Missing) → IfSome reported (λ all. file_bytes all name ≡ None)
is_absent reported name h = search rules

-- a file over the limit can't be read
over_limit : (needed : Bool) (files : FileTable) (name : List ℕ) (answer : Option (List ℕ))
    → IsSomeAnd answer (λ bytes. file_limit < length bytes)
    → add_answer needed files name answer ≡ Err (CannotRead name)
over_limit needed files name answer big = grind (arith, nat_tests)

longer_than : (n : ℕ) → (bytes : List ℕ) × (n < length bytes)
longer_than n = (replicate (suc n) 0, rw length-replicate (omega arith))

pub is_too_big : (reported : Option (List File)) (needed : Bool) (files : FileTable) (name : List ℕ)
    → IsFileAnswer reported name (Err TooBig)
    → (answer : Option (List ℕ)) × IfSome reported (λ all. file_bytes all name ≡ answer)
    × (add_answer needed files name answer ≡ Err (CannotRead name))
is_too_big None needed files name h =
    (Some (longer_than file_limit).0, tt, over_limit needed files name (Some _) (longer_than file_limit).1)
is_too_big (Some all) needed files name h =
    (file_bytes all name, refl, over_limit needed files name (file_bytes all name) h)

pub ruleset next_name = (step_begins, step_next, missed_next)

pub ruleset once = (step_same, step_short, folder_is, step_failed)
