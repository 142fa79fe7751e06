-- The first occurrences of names.
use Rattle.std.proofs.Common.{rules}
use Rattle.std.proofs.lemmas.Bool.Decides.{nat_tests}
use Rattle.std.proofs.Common.{◌≡◌, ◌<◌, ◌∙◌, ℕ, Bool, ◌&&◌}
use Rattle.std.proofs.Common.{List, [], length, get_or, sym, arith, Option, Some, position}
use Rattle.std.specs.Prelude.{slice_get, IsSome, find}
use Rattle.std.specs.List.{position_or_len}
use Rattle.std.specs.Bool.{Decides}
use Rattle.std.proofs.lemmas.Option.{slice_get_cases, slice_get_within, get_or_from_slice_get}
use Rattle.std.proofs.lemmas.List.Elements.{Contains-get_or}
use Rattle.std.proofs.lemmas.List.Folds.{find_at}
use Rattle.std.proofs.lemmas.List.Sums.{fails_before_first, passes_at_first}
use Rattle.tangle_lexer.specs.Occurrences.{OccurrenceRead}
use Rattle.tangle_names.specs.declared.Resolved.{Resolved}
use Rattle.tangle_names.specs.declared.Resolved.TheVariants.{Name}
use Rattle.tangle_names.specs.Names.{full_names, meaning}
use Rattle.tangle_names.specs.Numbers.{is_number}
use Rattle.tangle_names.specs.Resolving.{first_file_number, first_number, names_in_order, resolve}
use Rattle.tangle_names.specs.Resolving.{resolves_to}
use Rattle.tangle_names.specs.Laws.{IsFirst, IsFirstIfAny, ResolvesTo, ResolvesToFile}
use Rattle.tangle_names.proofs.LawLemmas.{occur}
use Rattle.tangle_names.proofs.MeaningLemmas.{none_passes}
use Rattle.tangle_names.proofs.TableLemmas.{distinct_names, is_number-means}

-- where a test decides whether this holds, the first item that passes is the first of which it holds
module _ (q : OccurrenceRead → Bool) (P : OccurrenceRead → Type 0) (os : List OccurrenceRead)
    (decides : (o : OccurrenceRead) → Decides (q o) (P o)) where
  first_at : (o : OccurrenceRead) → slice_get os (position_or_len q os) ≡ Some o → IsFirst P os (position_or_len q os)
  first_at o found =
      let n = position_or_len q os in
      let passes = passes_at_first q os o (slice_get_within os n o found) in
      record {
        occurrence = o;
        at = found;
        holds = (decides o).0 (grind (arith, nat_tests, passes, get_or_from_slice_get os n o o found));
        no_earlier = λ k other less read is. (let at = get_or_from_slice_get os k other other read in
            grind (arith, nat_tests, decides other, at, fails_before_first q os k other less));
      }

  first_or_none : IsFirstIfAny P os (position q os)
  first_or_none =
      grind (arith, nat_tests, slice_get_cases os (position_or_len q os), first_at, none_passes q os)

-- an occurrence resolves to a name if it means the name
numbered : (id : ℕ) (r : Resolved) → Decides (is_number id r) (r ≡ Name id)
numbered id r = grind (arith, nat_tests)

resolves : (os : List OccurrenceRead) (id : ℕ) (o : OccurrenceRead) → id < length (names_in_order os)
    → Decides (resolves_to os (get_or (names_in_order os) id []) o) (resolve os o ≡ Name id)
resolves os id o h = rw (← is_number-means (names_in_order os) (meaning (full_names os) o) id
    (distinct_names os) h) (numbered id (resolve os o))

pub some_of : {X : Type 0} (o : Option X) → IsSome o → (x : X) × (o ≡ Some x)
some_of o h = search rules

pub first_law : (os : List OccurrenceRead) (id : ℕ) → id < length (names_in_order os)
    → IsFirst (ResolvesTo os id) os (first_number os (get_or (names_in_order os) id []))
first_law os id h =
    let name = get_or (names_in_order os) id [] in
    let found = some_of (find (resolves_to os name) os) (occur os name (Contains-get_or (names_in_order os) id [] h)) in
    first_at (resolves_to os name) (ResolvesTo os id) os (λ o. resolves os id o h) found.0
    (sym (find_at (resolves_to os name) os) ∙ found.1)

pub file_law : (os : List OccurrenceRead) (id : ℕ) → id < length (names_in_order os)
    → IsFirstIfAny (ResolvesToFile os id) os (first_file_number os (get_or (names_in_order os) id []))
file_law os id h =
    let name = get_or (names_in_order os) id [] in
    first_or_none (λ o. o.is_file && resolves_to os name o) (ResolvesToFile os id) os
    (λ o. grind (arith, nat_tests, resolves os id o h))
