-- Loading round by round, and how it ends.
use Rattle.std.proofs.Common.{rules}
use Rattle.std.proofs.Common.{◌≡◌, ◌∙◌, ◌⊎◌, inl, inr, ℕ, ◌≤◌, Bool, true, false, List, [], ◌∷◌, None, Some}
use Rattle.std.proofs.Common.{Ok, Err, ap, subst, sym, refl, length, append-nil}
use Rattle.tangle_files.specs.declared.refusal.Refusal.TheVariants.{BadName}
use Rattle.tangle_files.specs.Adding.{most_files}
use Rattle.tangle_files.specs.Lines.{FileTable}
use Rattle.tangle_files.specs.Roles.{RolesRead, fits}
use Rattle.tangle_folders.specs.Folder.{FolderRead}
use Rattle.tangle_loading.specs.Loading.{Contents, Load, LoadEnd, Loaded, ask_all, bad_name, load_of, load_unless}
use Rattle.tangle_loading.specs.Loading.{missing_of, named_in, rounds_after, so_far}
use Rattle.tangle_loading.specs.Loading.LoadEnd.{NoMemory, Refused}
use Rattle.std.specs.List.{AllByRecursion}
use Rattle.tangle_loading.specs.Endings.{LoadGives, Stands, StandsOrEnds, Step, WholeLoading}
use Rattle.tangle_loading.specs.Endings.EndsEarly.{IsItsEnd, IsShort}
use Rattle.tangle_loading.proofs.AskLemmas.{IsAsked, all_extend, asked_stay, become_asked}
use Rattle.tangle_loading.proofs.RoundLemmas.{first_fits, leads_on, round, rounds_stay}
use Rattle.tangle_loading.proofs.StepLemmas.{some_contents}
use Rattle.tangle_loading.proofs.TableLemmas.{Grows, grows_fits, same_table}

abbrev failed : LoadEnd → Loaded
failed ending = Err ending

abbrev no_files : Contents
no_files name = None

module _ (roles : RolesRead) (start : FolderRead) where
  abbrev whole : WholeLoading
  whole = record { start = start; roles = roles; rounds = most_files; final = λ contents. load_of contents roles }

  -- what holds between two rounds of loading
  pub record InRounds (now : FolderRead) (asked : List (List ℕ)) (files : FileTable) : Type 0 where
    pub has_roles : fits files roles ≡ true
    pub at : Stands whole false (missing_of files roles) now (so_far asked (Ok files))

  pub first_stands : bad_name roles ≡ None
      → Stands whole true (roles.web ∷ named_in roles.change) start (so_far [] (Ok []))
  first_stands named = record {
    known = λ contents. contents;
    knows = search rules;
    leads = λ contents. ap (λ bad. load_unless contents bad roles) named;
  }

  module _ {needed : Bool} {names : List (List ℕ)} {now new : FolderRead} {load : Load} {asked : List (List ℕ)} where
    stepped : {of : WholeLoading} {loaded : Loaded} → Stands of needed names now load
        → Step needed names [] now load new (so_far asked loaded) → StandsOrEnds of needed [] new asked loaded
    stepped {of = of} at step =
        step.to of [] (subst (λ l. Stands of needed l now load) (sym (append-nil names)) at)

    pub step_stops : {ending : LoadEnd} → Stands whole needed names now load
        → Step needed names [] now load new (so_far asked (Err ending)) → LoadGives roles start new (Err ending)
    step_stops at step =
        let s = stepped at step in record { contents = s.0; are_its = s.1; gives = s.2 }

    next_stands : {files : FileTable} → Stands whole needed names now load
        → Step needed names [] now load new (so_far asked (Ok files))
        → Stands whole false (missing_of files roles) new (so_far asked (Ok files))
    next_stands at step =
        let s = stepped at step in
        record { known = s.known; knows = s.knows; leads = λ c. leads_on (s.known c) roles _ (s.leads c) }

    -- there are contents by which the step is made
    by_some : {files : FileTable} → Stands whole needed names now load
        → Step needed names [] now load new (so_far asked (Ok files))
        → (contents : Contents) × (ask_all contents needed load names ≡ so_far asked (Ok files))
    unfolding rounds_after
    by_some at step =
        let of : WholeLoading = record whole {
          rounds = 0;
          final = λ contents. ask_all contents needed load names;
        } in
        let s = stepped {of = of} (record { known = at.known; knows = at.knows; leads = λ contents. refl }) step in
        (s.known no_files, s.leads no_files)

  pub rounds_begin : {new : FolderRead} {asked : List (List ℕ)} {files : FileTable} → bad_name roles ≡ None
      → Step true (roles.web ∷ named_in roles.change) [] start (so_far [] (Ok [])) new (so_far asked (Ok files))
      → InRounds new asked files
  rounds_begin {files = files} named step =
      let made = by_some (first_stands named) step in record {
        has_roles = first_fits made.0 roles files (ap (λ l. l.loaded) made.1);
        at = next_stands (first_stands named) step;
      }

  module _ {now : FolderRead} {asked : List (List ℕ)} {files : FileTable} (so : InRounds now asked files)
      {new : FolderRead} {end : List (List ℕ)} {table : FileTable}
      (step : Step false (missing_of files roles) [] now (so_far asked (Ok files)) new (so_far end (Ok table))) where
    pub step_grows : Grows files table
    step_grows =
        let made = by_some so.at step in
        let more = all_extend made.0 false (missing_of files roles) (so_far asked (Ok files)) in
        search (rules, more.files table (ap (λ l. l.loaded) made.1))

    pub rounds_next : InRounds new end table
    rounds_next = record { has_roles = grows_fits files table roles step_grows so.has_roles; at = next_stands so.at step }

    -- a round that adds no file is the last
    pub rounds_done : length table ≤ length files → LoadGives roles start new (Ok table)
    rounds_done few =
        let made = by_some so.at step in
        let load = so_far end (Ok table) in
        let asked_for = subst (λ l. AllByRecursion (IsAsked l.asked) (missing_of files roles)) made.1
        (become_asked made.0 false (missing_of files roles) (so_far asked (Ok files)) table
        (ap (λ l. l.loaded) made.1)) in
        let last : (contents : Contents) → round contents roles load ≡ load = λ c.
        ap (λ t. ask_all c false load (missing_of t roles)) (same_table files table step_grows few)
        ∙ asked_stay c false (missing_of files roles) load asked_for in
        let s = stepped so.at step in
        let some = some_contents start.files in
        let contents = s.known some.0 in
        let all : load_of contents roles ≡ load = s.leads some.0 ∙ rounds_stay _ roles most_files load (last contents) in
        record { contents = contents; are_its = s.knows.are_its some.0 some.1; gives = search rules }

  -- the folder was not used
  pub unused : (ending : LoadEnd)
      → ((name : List ℕ) × (bad_name roles ≡ Some name) × (failed ending ≡ Err (Refused name BadName)))
      ⊎ (failed ending ≡ Err NoMemory) → LoadGives roles start start (Err ending)
  unused ending why =
      let is = some_contents start.files in record {
        contents = is.0;
        are_its = is.1;
        gives = elim why [ inl bad ↦ search (rules, IsItsEnd) | inr none ↦ IsShort [] _ refl refl (cc) ];
      }
