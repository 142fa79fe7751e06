-- Rounds of loading, and its end.
use Rattle.std.proofs.Common.{rules}
use Rattle.std.proofs.Common.{◌≡◌, ◌∙◌, ◌⊎◌, inl, inr, ℕ, zero, suc, ◌<◌, Bool, true, false, List}
use Rattle.std.proofs.Common.{[], ◌∷◌}
use Rattle.std.proofs.Common.{Option, None, Some, Ok, Err, ap, sym, refl, length, arith, Contains}
use Rattle.std.specs.List.{AllByRecursion, IsDistinct}
use Rattle.std.proofs.lemmas.Bool.{cases_lt}
use Rattle.std.proofs.lemmas.List.Elements.{All-from_recursion}
use Rattle.tangle_files.specs.Lines.{FileTable}
use Rattle.tangle_files.specs.Adding.{has_file, most_files}
use Rattle.tangle_files.specs.Roles.{RolesRead, fits, has_file_if_any}
use Rattle.tangle_loading.specs.Loading.{Contents, Load, LoadEnd, Loaded, ask_all, bad_name, first_round}
use Rattle.tangle_loading.specs.Loading.{load_of, load_unless, missing_in, missing_of, named_in, round_after}
use Rattle.tangle_loading.specs.Loading.{rounds_after, so_far}
use Rattle.tangle_loading.proofs.AskLemmas.{AreThere, AsksOnce, Extends, HasFew, IsAsked, IsKept, all_extend}
use Rattle.tangle_loading.proofs.AskLemmas.{all_keep, asked_stay, become_asked, few_more}
use Rattle.tangle_loading.proofs.AskLemmas.{once_more, rounds_keep, there_more}
use Rattle.tangle_loading.proofs.TableLemmas.{same_table}

module _ (contents : Contents) (roles : RolesRead) where
  abbrev pub round : Load → Load
  round load = round_after contents roles load

  abbrev pub rounds : ℕ → Load → Load
  rounds n load = rounds_after contents roles n load

  pub round_extends : (load : Load) → Extends load (round load)
  round_extends load = all_extend contents false (missing_in load.loaded roles) load

  rounds_swap : (n : ℕ) (load : Load) → round (rounds n load) ≡ rounds n (round load)
  unfolding rounds_after
  rounds_swap zero load = refl
  rounds_swap (suc n) load = rounds_swap n (round load)

  -- a round that changes nothing is the last
  pub rounds_stay : (n : ℕ) (load : Load) → round load ≡ load → rounds n load ≡ load
  unfolding rounds_after
  rounds_stay zero load e = refl
  rounds_stay (suc n) load e = ap (rounds n) e ∙ rounds_stay n load e

  -- a round that adds no file is the last
  pub round_stays : (load : Load) (files : FileTable) → load.loaded ≡ Ok files → (round load).loaded ≡ Ok files
      → round (round load) ≡ round load
  round_stays load files old new =
      ap (λ l. ask_all contents false (round load) (missing_in l roles)) (new ∙ sym old)
      ∙ asked_stay contents false (missing_in load.loaded roles) (round load)
      (become_asked contents false (missing_in load.loaded roles) load files new)

  -- a round that changes something adds a file
  abbrev IsLastOrGrown : ℕ → Load → Type 0
  IsLastOrGrown n load =
      (round load ≡ load) ⊎ ((files : FileTable) × (load.loaded ≡ Ok files) × (n < length files))

  round_grows : (n : ℕ) (load : Load) (loaded : Loaded) → (round load).loaded ≡ loaded
      → IsLastOrGrown n load
      → IsLastOrGrown (suc n) (round load)
  round_grows n load (Err ending) e before = inl ((round_extends (round load)).ended ending e)
  round_grows n load (Ok files) e (inl stays) = inl (ap round stays)
  round_grows n load (Ok files) e (inr (old, is, more)) =
      let before = (round_extends load).files files e in
      let same : before.0 ≡ old = cc in
      elim (cases_lt (length before.0) (length files)) [
        | inl longer ↦ inr (files, e, omega (arith, ap length same))
        | inr none ↦ inl (round_stays load before.0 before.1
            (e ∙ ap Ok (same_table _ files before.2 none)))
      ]

  rounds_grow : (n : ℕ) (load : Load) → IsLastOrGrown 0 load → IsLastOrGrown n (rounds n load)
  unfolding rounds_after
  rounds_grow zero load first = first
  rounds_grow (suc n) load first =
      rw (← rounds_swap n load) (round_grows n (rounds n load) _ refl (rounds_grow n load first))

  -- after the first round the table has the web and the change file
  first_there : (files : FileTable) → (first_round contents roles).loaded ≡ Ok files
      → (name : List ℕ) → IsAsked (first_round contents roles).asked name → has_file files name ≡ true
  first_there files e name asked = search (rules, all_keep, there_more)

  pub first_fits : (files : FileTable) → (first_round contents roles).loaded ≡ Ok files → fits files roles ≡ true
  first_fits files e =
      let all = become_asked contents true (roles.web ∷ named_in roles.change) (so_far [] (Ok [])) files e in
      rw (first_there files e roles.web all.0) (by roles.change all.1)
    where
      by : (change : Option (List ℕ)) → AllByRecursion (IsAsked (first_round contents roles).asked) (named_in change)
          → has_file_if_any files change ≡ true
      by None all = refl
      by (Some name) all = first_there files e name all.0

  -- the table has the web after the first round
  first_grown : (loaded : Loaded) → (first_round contents roles).loaded ≡ loaded
      → IsLastOrGrown 0 (first_round contents roles)
  first_grown (Err ending) e = inl ((round_extends (first_round contents roles)).ended ending e)
  first_grown (Ok []) e = let fits = first_fits [] e in absurd (cc)
  first_grown (Ok (file ∷ files)) e = inr (file ∷ files, e, omega arith)

  -- what each name keeps, loading keeps
  pub load_keeps : (P : Load → Type 0) → ((needed : Bool) → IsKept contents P needed)
      → P (so_far [] (Ok [])) → ((ending : LoadEnd) → P (so_far [] (Err ending))) → P (load_of contents roles)
  load_keeps P kept start ended = by (bad_name roles)
    where
      by : (bad : Option (List ℕ)) → P (load_unless contents bad roles)
      by (Some bad) = ended _
      by None = rounds_keep contents P roles (kept false) most_files (first_round contents roles)
          (all_keep contents P true (kept true) (roles.web ∷ named_in roles.change) (so_far [] (Ok [])) start)

  pub one_more : round (load_of contents roles) ≡ load_of contents roles
  one_more = by (bad_name roles)
      (load_keeps (HasFew contents) (few_more contents) (λ files e. search rules) (λ ending files e. absurd (cc)))
    where
      by : (bad : Option (List ℕ)) → HasFew contents (load_unless contents bad roles)
          → round (load_unless contents bad roles) ≡ load_unless contents bad roles
      by (Some bad) few = refl
      by None few = elim (rounds_grow most_files (first_round contents roles) (first_grown _ refl)) [
        | inl stays ↦ stays
        | inr (files, e, more) ↦ (let most = few files e in absurd (omega arith))
      ]

  -- what the rounds are that are left, after one more
  pub leads_on : (load : Load) → load_of contents roles ≡ rounds most_files load
      → load_of contents roles ≡ rounds most_files (round load)
  leads_on load e = sym one_more ∙ ap round e ∙ rounds_swap most_files load

  pub load_once : AsksOnce contents (load_of contents roles)
  unfolding IsDistinct
  load_once = load_keeps (AsksOnce contents) (once_more contents) tt (λ ending. tt)

  -- a name that is still missing was asked for
  pub none_missing : (files : FileTable) → (load_of contents roles).loaded ≡ Ok files
      → (name : List ℕ) → Contains (missing_of files roles) name → has_file files name ≡ false
      → contents name ≡ None
  none_missing files e name missing absent =
      let load = load_of contents roles in
      let there = load_keeps (AreThere contents (λ n. contents n ≡ None))
      (λ needed. there_more contents (λ n. contents n ≡ None) needed (λ n _ none. none))
      (λ table k n any. absurd (cc)) (λ ending table k n any. absurd (cc)) in
      let asked = All-from_recursion (IsAsked (round load).asked) (missing_in load.loaded roles)
      (become_asked contents false (missing_in load.loaded roles) load files (ap (λ l. l.loaded) one_more ∙ e)) in
      search (rules, one_more)
