-- The name that is meant is among the names, and keeps its number.
use Rattle.std.proofs.Common.{◌≡◌, ◌∙◌, ◌||◌, true, List, [], ◌∷◌, fold}
use Rattle.std.proofs.Common.{refl, sym, arith}
use Rattle.std.specs.List.{list_any, position_or_len}
use Rattle.std.specs.Str.{bytes_eq}
use Rattle.std.proofs.Math.Bool.{or-false}
use Rattle.std.proofs.lemmas.Cmp.{nat_list_eq_equiv}
use Rattle.std.proofs.lemmas.Bool.Decides.{nat_tests}
use Rattle.std.proofs.lemmas.List.Folds.{list_any-append, position_or_len_push}
use Rattle.std.proofs.lemmas.Slice.Eq.{bytes_eq-Decides}
use Rattle.tangle_lexer.specs.Occurrences.{OccurrenceRead}
use Rattle.tangle_names.specs.Names.{NameText, Meaning, One, full_names, meaning, means}
use Rattle.tangle_names.specs.Resolving.{meanings, names_in_order, resolved_meaning, resolves_to, with_name}
use Rattle.tangle_names.proofs.MeaningLemmas.{any_inside, any-map}

-- a name is among the names after these meanings if it was before them, or if one of them means it
named-with : (t : NameText) (ts : List NameText) (m : Meaning)
    → list_any (bytes_eq t) (with_name ts m) ≡ (list_any (bytes_eq t) ts || means t m)
named-with t ts (One u) = grind (arith, nat_tests, list_any-append (bytes_eq t) ts (u ∷ []), bytes_eq-Decides t u)
named-with t ts m = sym (or-false (list_any (bytes_eq t) ts))

named : (t : NameText) (ms : List Meaning) (ts : List NameText)
    → list_any (bytes_eq t) (fold with_name ts ms) ≡ (list_any (bytes_eq t) ts || list_any (means t) ms)
named t [] ts = sym (or-false (list_any (bytes_eq t) ts))
named t (m ∷ ms) ts = grind (arith, nat_tests, named t ms (with_name ts m), named-with t ts m)

pub named_if_resolved : (os : List OccurrenceRead) (t : NameText)
    → list_any (bytes_eq t) (names_in_order os) ≡ list_any (resolves_to os t) os
named_if_resolved os t = named t (meanings os) [] ∙ any-map (means t) (meaning (full_names os)) os

-- a name keeps its number when names are added
number-with : (t : NameText) (ts : List NameText) (m : Meaning) → (list_any (bytes_eq t) ts || means t m) ≡ true
    → position_or_len (bytes_eq t) (with_name ts m) ≡ position_or_len (bytes_eq t) ts
number-with t ts (One u) h =
    grind (arith, nat_tests, position_or_len_push (bytes_eq t) ts u, any_inside (bytes_eq t) ts)
number-with t ts m h = refl

number-kept : (t : NameText) (ms : List Meaning) (ts : List NameText) → list_any (bytes_eq t) ts ≡ true
    → position_or_len (bytes_eq t) (fold with_name ts ms) ≡ position_or_len (bytes_eq t) ts
number-kept t [] ts h = refl
number-kept t (m ∷ ms) ts h =
    grind (arith, nat_tests, number-kept t ms (with_name ts m), number-with t ts m, named-with t ts m)

pub resolved-first : (ms : List Meaning) (ts : List NameText) (m : Meaning)
    → resolved_meaning (fold with_name ts (m ∷ ms)) m ≡ resolved_meaning ts m
resolved-first ms ts m = grind (arith, nat_tests, number-kept, number-with, named-with, nat_list_eq_equiv)
