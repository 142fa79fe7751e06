-- Asking for names, one after another.
use Rattle.std.proofs.Common.{rules}
use Rattle.std.proofs.Common.{◌≡◌, ◌∙◌, ◌⊎◌, inl, inr, ℕ, zero, suc, ◌≤◌, ◌<◌, ◌+◌, Bool, true, false, cond, List, [], ◌∷◌, ◌++◌}
use Rattle.std.proofs.Common.{None, Ok, Err, ap, sym, refl, length, drop, get_or, append-nil, append_assoc}
use Rattle.std.specs.Prelude.{map}
use Rattle.std.specs.List.{AllByRecursion, IsDistinct, list_any}
use Rattle.std.specs.Str.{bytes_eq}
use Rattle.std.specs.declared.vec.Vec.{Vec}
use Rattle.std.specs.Global.{Global}
use Rattle.std.proofs.lemmas.Bool.{cond-true, cond_both, or_cases}
use Rattle.std.proofs.lemmas.Cmp.{nat_list_eq_equiv}
use Rattle.std.proofs.lemmas.List.{drop_more, map-append}
use Rattle.std.proofs.lemmas.List.Folds.{list_any-append}
use Rattle.std.proofs.lemmas.List.Elements.{filter-append}
use Rattle.std.proofs.lemmas.Map.Keys.{IsDistinct-push}
use Rattle.std.proofs.lemmas.Slice.Eq.{bytes_eq-Decides}
use Rattle.tangle_faults.specs.Faults.{FaultRead}
use Rattle.tangle_files.specs.Lines.{FileTable}
use Rattle.tangle_files.specs.Adding.{has_file, most_files}
use Rattle.tangle_files.specs.Roles.{RolesRead}
use Rattle.tangle_loading.specs.Loading.{Contents, Load, LoadEnd, Loaded, add_answer, ask, ask_all, is_missed}
use Rattle.tangle_loading.specs.Loading.{missed_in, missing_in, round_after, rounds_after, so_far}
use Rattle.tangle_loading.proofs.TableLemmas.{Grows, grows_by, grows_then, grows_there, list_any-map, stays, there}
use Rattle.tangle_loading.proofs.TableLemmas.{within}

-- the name was asked for, or not yet
abbrev pub IsAsked : List (List ℕ) → List ℕ → Type 0
IsAsked asked name = list_any (bytes_eq name) asked ≡ true

abbrev pub IsFresh : List (List ℕ) → List ℕ → Type 0
IsFresh asked name = list_any (bytes_eq name) asked ≡ false

-- what further asking leaves: names and files are added at the end, and an ending stays
pub record Extends (old new : Load) : Type 0 where
  pub more : List (List ℕ)
  pub asked : new.asked ≡ old.asked ++ more
  pub files : (next : FileTable) → new.loaded ≡ Ok next
      → (before : FileTable) × (old.loaded ≡ Ok before) × Grows before next
  pub ended : (ending : LoadEnd) → old.loaded ≡ Err ending → new ≡ old

pub extends_same : (load : Load) → Extends load load
extends_same load = record {
  more = [];
  asked = sym (append-nil load.asked);
  files = λ next e. (next, e, stays next next refl);
  ended = λ ending e. refl;
}

pub still_asked : (old new : Load) (name : List ℕ) → Extends old new → IsAsked old.asked name → IsAsked new.asked name
still_asked old new name x e = search (rules, list_any-append)

module _ (contents : Contents) where
  abbrev pub ask_now : Bool → List (List ℕ) → FileTable → List ℕ → Load
  ask_now needed asked files name = so_far (asked ++ name ∷ []) (add_answer needed files name (contents name))

  -- what stays as names are asked for
  abbrev pub IsKept : (Load → Type 0) → Bool → Type 0
  IsKept P needed = (asked : List (List ℕ)) (files : FileTable) (name : List ℕ)
      → P (so_far asked (Ok files)) → IsFresh asked name → P (ask_now needed asked files name)

  keep : (P : Load → Type 0) (needed : Bool) → IsKept P needed → (asked : List (List ℕ)) (loaded : Loaded)
      (name : List ℕ) → P (so_far asked loaded) → P (ask contents needed asked loaded name)
  keep P needed kept asked (Err ending) name p = p
  keep P needed kept asked (Ok files) name p = cond_both (list_any (bytes_eq name) asked) (so_far asked (Ok files))
      (ask_now needed asked files name) P (λ _. p) (λ fresh. kept asked files name p fresh)

  pub all_keep : (P : Load → Type 0) (needed : Bool) → IsKept P needed
      → (names : List (List ℕ)) (load : Load) → P load → P (ask_all contents needed load names)
  all_keep P needed kept [] load p = p
  all_keep P needed kept (name ∷ names) load p =
      all_keep P needed kept names _ (keep P needed kept load.asked load.loaded name p)

  pub rounds_keep : (P : Load → Type 0) (roles : RolesRead) → IsKept P false
      → (n : ℕ) (load : Load) → P load → P (rounds_after contents roles n load)
  unfolding rounds_after
  rounds_keep P roles kept zero load p = p
  rounds_keep P roles kept (suc n) load p =
      rounds_keep P roles kept n (round_after contents roles load)
      (all_keep P false kept (missing_in load.loaded roles) load p)

  pub extend_more : (load : Load) (needed : Bool) → IsKept (Extends load) needed
  extend_more load needed asked files name x fresh = record {
    more = x.more ++ name ∷ [];
    asked = ap (λ l. l ++ name ∷ []) x.asked ∙ append_assoc load.asked x.more (name ∷ []);
    files = λ next e.
        let before = x.files files refl in
        (before.0, before.1, grows_then before.0 files next before.2 (grows_by needed files next name (contents name) e));
    ended = λ ending e. (let same = ap (λ l. l.loaded) (x.ended ending e) ∙ e in absurd (cc));
  }

  pub all_extend : (needed : Bool) (names : List (List ℕ)) (load : Load)
      → Extends load (ask_all contents needed load names)
  all_extend needed names load =
      all_keep (Extends load) needed (extend_more load needed) names load (extends_same load)

  is_asked : (needed : Bool) (asked : List (List ℕ)) (loaded : Loaded) (name : List ℕ) (files : FileTable)
      → (ask contents needed asked loaded name).loaded ≡ Ok files
      → IsAsked (ask contents needed asked loaded name).asked name
  is_asked needed asked loaded name files e = search (rules, cond_both, list_any-append)

  pub become_asked : (needed : Bool) (names : List (List ℕ)) (load : Load) (files : FileTable)
      → (ask_all contents needed load names).loaded ≡ Ok files
      → AllByRecursion (IsAsked (ask_all contents needed load names).asked) names
  become_asked needed [] load files e = tt
  become_asked needed (name ∷ names) load files e =
      let next = ask contents needed load.asked load.loaded name in
      let more = all_extend needed names next in (
        still_asked next _ name more (is_asked needed load.asked load.loaded name _ (more.files files e).1),
        become_asked needed names next files e,
      )

  -- names that were asked for are not asked for again
  pub ask_same : (needed : Bool) (asked : List (List ℕ)) (loaded : Loaded) (name : List ℕ) → IsAsked asked name
      → ask contents needed asked loaded name ≡ so_far asked loaded
  ask_same needed asked (Err ending) name is = refl
  ask_same needed asked (Ok files) name is = cond-true _ _ _ is

  pub asked_stay : (needed : Bool) (names : List (List ℕ)) (load : Load) → AllByRecursion (IsAsked load.asked) names
      → ask_all contents needed load names ≡ load
  asked_stay needed [] load all = refl
  asked_stay needed (name ∷ names) load all =
      ap (λ l. ask_all contents needed l names) (ask_same needed load.asked load.loaded name all.0)
      ∙ asked_stay needed names load all.1

  -- no two of the names asked for are the same
  abbrev pub AsksOnce : Load → Type 0
  AsksOnce load = IsDistinct bytes_eq load.asked

  pub once_more : (needed : Bool) → IsKept AsksOnce needed
  once_more needed asked files name once fresh = IsDistinct-push nat_list_eq_equiv asked name once fresh

  -- the table has no more files than it may have
  abbrev pub HasFew : Load → Type 0
  HasFew load = (files : FileTable) → load.loaded ≡ Ok files → length files ≤ most_files

  pub few_more : (needed : Bool) → IsKept HasFew needed
  few_more needed asked files name few fresh next e = within needed files next name (contents name) e (few files refl)

  -- the file of each name that was asked for is in the table, or this holds of the name
  module _ (P : List ℕ → Type 0) where
    abbrev pub AreThere : Load → Type 0
    AreThere load = (files : FileTable) → load.loaded ≡ Ok files → (name : List ℕ) → IsAsked load.asked name
        → (has_file files name ≡ true) ⊎ P name

    pub there_more : (needed : Bool) → ((name : List ℕ) → needed ≡ false → contents name ≡ None → P name)
        → IsKept AreThere needed
    there_more needed none asked files name so fresh next e other any =
        elim (or_cases (list_any (bytes_eq other) asked) (list_any (bytes_eq other) (name ∷ []))
        (sym (list_any-append (bytes_eq other) asked (name ∷ [])) ∙ any)) [
          | inl old ↦ search (rules, so files refl other old, grows_there, grows_by)
          | inr is ↦ search (rules, bytes_eq-Decides, there)
        ]

-- the names that one more fault misses
pub missed-append : (xs ys : List FaultRead) → missed_in (xs ++ ys) ≡ missed_in xs ++ missed_in ys
missed-append xs ys = search (rules, filter-append, map-append)

pub missed_next : (faults : List FaultRead) (i : ℕ) (fault : FaultRead)
    → i < length faults → fault ≡ get_or faults i fault → is_missed fault ≡ true
    → missed_in (drop i faults) ≡ fault.subject ∷ missed_in (drop (i + 1) faults)
missed_next faults i fault inside is e = rw (drop_more faults i fault inside, ← is, e) refl

-- one more name is kept
pub asked_of_keys : (ks : List (Vec ℕ Global)) (k : Vec ℕ Global) → IsFresh (map (λ k. k.items) ks) k.items
    → map (λ k. k.items) (cond (list_any (λ m. bytes_eq k.items m.items) ks) ks (ks ++ k ∷ []))
    ≡ map (λ k. k.items) ks ++ k.items ∷ []
asked_of_keys ks k fresh =
    rw (list_any-map (bytes_eq k.items) (λ k. k.items) ks, fresh) (map-append (λ k. k.items) ks (k ∷ []))
