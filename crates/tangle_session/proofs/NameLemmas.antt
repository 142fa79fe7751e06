-- No two outputs of a web have names of the same plain form.
use Rattle.std.proofs.Common.{rules}
use Rattle.std.proofs.lemmas.Bool.Decides.{nat_tests}
use Rattle.std.proofs.Common.{◌≡◌, ◌≢◌, ◌<◌, ◌≤◌, ◌+◌, ◌++◌, ℕ, zero, suc, true}
use Rattle.std.proofs.Common.{map, filter, flat_map, get_or, sym, subst, arith, length, ◌∷◌, [], List}
use Rattle.std.proofs.Common.{false, ◌&&◌}
use Rattle.std.specs.Prelude.{Some, All, AllPairs, Contains}
use Rattle.std.specs.List.{IsDistinct, range_with_len}
use Rattle.std.specs.Str.{bytes_eq}
use Rattle.std.proofs.lemmas.Cmp.{nat_list_eq_equiv}
use Rattle.std.proofs.lemmas.List.{get_or-map, length-map}
use Rattle.std.proofs.lemmas.Simd.{map-map}
use Rattle.std.proofs.lemmas.List.Elements.{All-append, All-nil, All-map, All-filter, filter_passes}
use Rattle.std.proofs.lemmas.List.Folds.{list_any-from_Any}
use Rattle.std.proofs.lemmas.List.Kept.{AllPairs-cons, AllPairs-filter}
use Rattle.std.proofs.lemmas.Map.Made.{AllPairs-from_IsDistinct, IsDistinct-from_AllPairs}
use Rattle.std.proofs.lemmas.Map.Views.{lookup-from_Contains}
use Rattle.std.proofs.lemmas.Slice.Eq.{bytes_eq-Decides}
use Rattle.tangle_files.specs.Lines.{FileTable}
use Rattle.tangle_files.specs.Roles.{RolesRead}
use Rattle.tangle_scan.specs.Web.{WebRead}
use Rattle.tangle_names.specs.declared.Resolved.{Resolved}
use Rattle.tangle_names.specs.NameTable.{TableRead, table_of}
use Rattle.tangle_expansion.specs.Outputs.{OutputRead}
use Rattle.tangle_bodies.specs.WebShapes.{resolved_at, shapes}
use Rattle.tangle_graph.specs.Grouping.{has_number_in}
use Rattle.tangle_graph.specs.Outputs.{file_names, first_file_name, first_file_occurrence, names_resolved}
use Rattle.tangle_graph.specs.Outputs.{form_at, is_earlier_file, is_named_file}
use Rattle.tangle_graph.specs.Outputs.{is_written, named_file, outputs}
use Rattle.tangle_graph.specs.PlainForms.{plain_form}
use Rattle.tangle_session.specs.Headline.{output_at, output_bytes, output_files, table_at, web_at}
use Rattle.digraph.proofs.UserLemmas.{in_range}
use Rattle.tangle_session.proofs.OutputLemmas.{names_written}

-- a name comes at its first occurrence with `@(`, and so once
module _ (table : TableRead) where
  here : (k : ℕ) → All (λ id. first_file_occurrence table id ≡ Some k) (first_file_name table k)
  here k i d h = search rules

  abbrev IsFrom : ℕ → ℕ → Type 0
  IsFrom a id = (k : ℕ) × (first_file_occurrence table id ≡ Some k) × (a ≤ k)

  later : (a n : ℕ) → All (IsFrom a) (flat_map (first_file_name table) (range_with_len a n))
  later a zero = All-nil (IsFrom a)
  later a (suc n) = All-append (IsFrom a) (first_file_name table a)
      (flat_map (first_file_name table) (range_with_len (a + 1) n)) (λ i d h. (a, here a i d h, omega arith))
      (λ i d h. grind (arith, later (a + 1) n i d h))

  apart : (a n : ℕ) → AllPairs (λ x y. x ≢ y) (flat_map (first_file_name table) (range_with_len a n))
  apart a zero = λ i j d less h. absurd (omega arith)
  apart a (suc n) = by (first_file_name table a) (here a) (one (resolved_at table a)) (apart (a + 1) n)
    where
      one : (r : Resolved)
          → length (filter (λ id. has_number_in a (first_file_occurrence table id)) (names_resolved r)) ≤ 1
      one r = search rules

      by : (ids : List ℕ) → All (λ id. first_file_occurrence table id ≡ Some a) ids → length ids ≤ 1
          → AllPairs (λ x y. x ≢ y) (flat_map (first_file_name table) (range_with_len (a + 1) n))
          → AllPairs (λ x y. x ≢ y) (ids ++ flat_map (first_file_name table) (range_with_len (a + 1) n))
      by (x ∷ []) are few rest =
          AllPairs-cons (λ x y. x ≢ y) x (flat_map (first_file_name table) (range_with_len (a + 1) n)) (λ i d h. (
          grind (arith, nat_tests, are 0 x (omega arith), later (a + 1) n i d h))) rest
      by ids are few rest = search rules

module _ (web : WebRead) (out : List ℕ) where
  abbrev table : TableRead
  table = table_of web

  abbrev ids : List ℕ
  ids = filter (is_written web table out) (file_names web table)

  ids_once : AllPairs (λ a b. a ≢ b) ids
  ids_once = AllPairs-filter (λ a b. a ≢ b) (is_written web table out) (file_names web table)
      (apart table 0 (length web.occurrences))

  -- the name is that of a file, which is neither the main file nor that of an earlier name
  record IsOwn (id : ℕ) : Type 0 where
    named : is_named_file (shapes web table) table out id ≡ true
    first : is_earlier_file (shapes web table) table out id ≡ false

  ids_own : All IsOwn ids
  ids_own i d h = (let marked = All-filter (is_written web table out) (IsFrom table 0) (file_names web table)
      (later table 0 (length web.occurrences)) i d h in
      let is = filter_passes (is_written web table out) (file_names web table) i d h in grind (arith, nat_tests))

  -- of two names of one file the later one has no file of its own
  only_first : (a b : ℕ) → a < b → IsOwn a → IsOwn b → form_at table b ≡ form_at table a → ⊥
  only_first a b less x y same = grind (
    arith,
    nat_tests,
    in_range b a less,
    (bytes_eq-Decides (form_at table b) (form_at table a)).1 same,
    list_any-from_Any (λ e. is_named_file (shapes web table) table out e
        && bytes_eq (form_at table b) (form_at table e)) (range_with_len 0 b),
  )

  named_forms : map plain_form (map (λ (o : OutputRead). o.name) (map (named_file table) ids)) ≡ map (form_at table) ids
  named_forms = search (rules, map-map)

  named_once : AllPairs (λ a b. a ≢ b) (map plain_form (map (λ (o : OutputRead). o.name) (map (named_file table) ids)))
  named_once = rw named_forms (λ i j d less h same. (
      let form = get_or-map (form_at table) ids in let size = length-map ids (form_at table) in
      grind (arith, nat_tests, form, size, only_first, ids_once i j 0 less, ids_own i 0, ids_own j 0)))

  not_main : (id : ℕ) → IsOwn id → plain_form out ≢ form_at table id
  not_main id is same =
      grind (arith, nat_tests, bytes_eq-Decides (form_at table id) (plain_form out), is.named, same)

  main_apart : All (λ x. plain_form out ≢ x) (map plain_form (map (λ (o : OutputRead). o.name) (map (named_file table) ids)))
  main_apart = subst (All (λ x. plain_form out ≢ x)) (sym named_forms) (All-map (λ x. plain_form out ≢ x) (form_at table)
      ids (λ i d h. not_main (get_or ids i d) (ids_own i d h)))

  pub forms_once : AllPairs (λ a b. a ≢ b) (map plain_form (map (λ (o : OutputRead). o.name) (outputs web table out)))
  forms_once = search (rules, main_apart, named_once)

-- where no two of the values that a function gives are equal, no two of its arguments are
apart_from : {X Y : Type 0} (f : X → Y) (xs : List X) → AllPairs (λ a b. a ≢ b) (map f xs) → AllPairs (λ a b. a ≢ b) xs
apart_from f xs once i j d less h same = once i j (f d) less (omega (arith, length-map xs f))
    (grind (arith, get_or-map f xs i d (f d), get_or-map f xs j d (f d)))

pub forms_distinct : (files : FileTable) (roles : RolesRead)
    → IsDistinct bytes_eq (map plain_form (map (λ f. f.0) (output_files files roles)))
forms_distinct files roles = rw (← names_written (output_bytes files roles) (outputs (web_at files
    roles) (table_at files roles) roles.out))
    (IsDistinct-from_AllPairs bytes_eq-Decides _ (forms_once (web_at files roles) roles.out))

pub names_distinct : (files : FileTable) (roles : RolesRead)
    → IsDistinct bytes_eq (map (λ f. f.0) (output_files files roles))
names_distinct files roles = IsDistinct-from_AllPairs bytes_eq-Decides _
    (apart_from plain_form _ (AllPairs-from_IsDistinct bytes_eq-Decides _ (forms_distinct files roles)))

pub found_by_name : (files : FileTable) (roles : RolesRead) (name bytes : List ℕ)
    → Contains (output_files files roles) (name, bytes) → output_at files roles name ≡ Some bytes
found_by_name files roles name bytes c =
    lookup-from_Contains nat_list_eq_equiv name bytes (output_files files roles) (names_distinct files roles) c
