-- The laws of names.
use Rattle.std.proofs.Common.{rules}
use Rattle.std.proofs.lemmas.Bool.Decides.{nat_tests}
use Rattle.std.proofs.Common.{◌≡◌, ◌∙◌, Bool, true, false, cond, not, List, [], ◌∷◌, filter}
use Rattle.std.proofs.Common.{refl, ap, sym, arith, All, Contains, find, get_or, length, map}
use Rattle.std.proofs.lemmas.List.{get_or_default}
use Rattle.std.proofs.lemmas.List.Elements.{All-map}
use Rattle.std.specs.List.{IsDistinct, list_any, position_or_len}
use Rattle.std.specs.Prelude.{IsSome}
use Rattle.std.specs.Str.{bytes_eq}
use Rattle.std.proofs.lemmas.Cmp.{nat_list_eq_equiv}
use Rattle.std.proofs.lemmas.List.Sums.{passes_at_first}
use Rattle.std.proofs.lemmas.Map.Views.{list_any-from_Contains}
use Rattle.tangle_lexer.specs.Occurrences.{OccurrenceRead}
use Rattle.tangle_names.specs.Names.{NameText, Meaning, One, full_names, meaning, means}
use Rattle.tangle_names.specs.Names.{only_with, prefix}
use Rattle.tangle_names.specs.Resolving.{first_occurrence, names_in_order, resolve, resolved_meaning}
use Rattle.tangle_names.specs.Resolving.{resolves_to}
use Rattle.tangle_names.specs.Laws.{Begins, IsNumberOf, ResolvesFull, ResolvesPrefix}
use Rattle.tangle_names.specs.NameTable.{IsNameBelow}
use Rattle.tangle_names.proofs.ContainsLemmas.{out_of_filter}
use Rattle.tangle_names.proofs.ContainsLemmas.{out_of_map}
use Rattle.tangle_names.proofs.MeaningLemmas.{Fits, any_inside, contains-any, itself, list_any-some, only_with-fits}
use Rattle.tangle_names.proofs.ResolvingLemmas.{named_if_resolved}
use Rattle.tangle_names.proofs.TableLemmas.{distinct_names, names_are_full}

-- each name once
pub once : (os : List OccurrenceRead) → IsDistinct bytes_eq (names_in_order os)
once = distinct_names

among : (os : List OccurrenceRead) (o : OccurrenceRead) (t : NameText)
    → Contains os o → meaning (full_names os) o ≡ One t → list_any (bytes_eq t) (names_in_order os) ≡ true
among os o t c is =
    named_if_resolved os t ∙ list_any-some (resolves_to os t) os o c (ap (means t) is ∙ nat_list_eq_equiv.refl t)

means_itself : (full : List NameText) (o : OccurrenceRead) → o.is_abbreviation ≡ false → meaning full o ≡ One o.text
means_itself full o is = ap (λ b. cond b (only_with full (prefix o.text)) (One o.text)) is

pub same : (os : List OccurrenceRead) (t : NameText)
    → (Contains (names_in_order os) t → Contains (full_names os) t)
    × (Contains (full_names os) t → Contains (names_in_order os) t)
same os t = (
  names_are_full os t,
  λ c.
      let found = out_of_map (λ (o : OccurrenceRead). o.text) (filter (λ (o : OccurrenceRead). not
      o.is_abbreviation) os) t c in
      let member = out_of_filter (λ (o : OccurrenceRead). not o.is_abbreviation) os found.0 found.1 in
      contains-any t (names_in_order os) (among os found.0 t member.0 (grind (arith, nat_tests))),
)

-- the number of a name
number-at : (t : NameText) (ts : List NameText)
    → list_any (bytes_eq t) ts ≡ true → IsNumberOf ts (position_or_len (bytes_eq t) ts) t
number-at t ts h =
    let inside = any_inside (bytes_eq t) ts h in search (rules, passes_at_first)

pub full_law : (os : List OccurrenceRead) (o : OccurrenceRead)
    → Contains os o → o.is_abbreviation ≡ false → ResolvesFull (names_in_order os) o.text (resolve os o)
full_law os o c is = search (rules, means_itself, number-at, among)

prefix_law-by : (os : List OccurrenceRead) (p : NameText) (m : Meaning)
    → Fits (Begins (full_names os) p) m
    → ((t : NameText) → m ≡ One t → list_any (bytes_eq t) (names_in_order os) ≡ true)
    → ResolvesPrefix (names_in_order os) (full_names os) p (resolved_meaning (names_in_order os) m)
prefix_law-by os p (One t) f named = (t, number-at t (names_in_order os) (named t refl), f)
prefix_law-by os p m f named = f

pub prefix_law : (os : List OccurrenceRead) (o : OccurrenceRead) → Contains os o → o.is_abbreviation ≡ true
    → ResolvesPrefix (names_in_order os) (full_names os) (prefix o.text) (resolve os o)
prefix_law os o c is =
    prefix_law-by os (prefix o.text) (meaning (full_names os) o) (search (rules, only_with-fits, itself))
    (search (rules, among))

-- each occurrence resolves to one of the names, or to none
pub inside : (os : List OccurrenceRead) → All (IsNameBelow (length (names_in_order os))) (map (resolve os) os)
inside os = All-map (IsNameBelow (length (names_in_order os))) (resolve os) os
    (λ i o low. by (get_or os i o) (i, low, get_or_default os i (get_or os i o) o low) (get_or os i o).is_abbreviation refl)
  where
    by : (o : OccurrenceRead) → Contains os o → (t : Bool)
        → o.is_abbreviation ≡ t → IsNameBelow (length (names_in_order os)) (resolve os o)
    by o h true e = search (rules, prefix_law)
    by o h false e = search (rules, full_law)

-- an occurrence resolves to each name
found_first : (q : OccurrenceRead → Bool) (os : List OccurrenceRead) → list_any q os ≡ true → IsSome (find q os)
found_first q [] h = absurd (cc)
found_first q (o ∷ os) h = grind (arith, nat_tests, found_first q os)

pub occur : (os : List OccurrenceRead) (t : NameText) → Contains (names_in_order os) t → IsSome (first_occurrence os t)
occur os t c = found_first (resolves_to os t) os
    (sym (named_if_resolved os t) ∙ list_any-from_Contains nat_list_eq_equiv t (names_in_order os) c)
