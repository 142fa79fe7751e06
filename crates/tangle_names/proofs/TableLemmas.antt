-- The names in order, their properties by number, and the table that is made from both.
use Rattle.std.proofs.Common.{rules}
use Rattle.std.proofs.Common.{◌≡◌, ◌<◌, ◌∙◌, ℕ, zero, suc, true, not, ◌&&◌, List}
use Rattle.std.proofs.Common.{[], ◌∷◌, length, map, filter, fold, get_or, sym, arith}
use Rattle.std.proofs.Common.{Contains}
use Rattle.std.specs.List.{position_or_len}
use Rattle.std.specs.Str.{bytes_eq}
use Rattle.std.proofs.lemmas.Bool.Decides.{nat_tests}
use Rattle.std.proofs.lemmas.Cmp.{nat_list_eq_equiv}
use Rattle.std.proofs.lemmas.List.{ext_get_or, get_or-map, length-map}
use Rattle.std.proofs.lemmas.List.Folds.{Any-from_list_any}
use Rattle.std.proofs.lemmas.Slice.Eq.{bytes_eq-Decides}
use Rattle.std.proofs.lemmas.Simd.{map-map}
use Rattle.tangle_names.specs.declared.first_numbers.Counted.{Counted}
use Rattle.tangle_lexer.specs.Occurrences.{OccurrenceRead}
use Rattle.tangle_names.specs.Names.{NameText, Meaning, One, full_names, meaning, means}
use Rattle.tangle_names.specs.Names.{prefix}
use Rattle.tangle_names.specs.Resolving.{meanings, names_in_order, resolve, resolved_meaning, resolves_to}
use Rattle.tangle_names.specs.Resolving.{names_of, with_name}
use Rattle.tangle_names.specs.Numbers.{first_by_number, is_counted, is_number}
use Rattle.tangle_names.specs.Sorted.{SameTexts}
use Rattle.tangle_names.proofs.ContainsLemmas.{into_filter, into_map}
use Rattle.tangle_names.proofs.MeaningLemmas.{itself, only_with-fits, only_with-same}
use Rattle.tangle_names.proofs.ResolvingLemmas.{named_if_resolved}
use Rattle.std.specs.List.{IsDistinct}
use Rattle.std.proofs.lemmas.Map.Keys.{IsDistinct-push, IsDistinct-tail, apart_from_distinct}
use Rattle.std.proofs.lemmas.Map.Views.{list_any-from_Contains}

-- no name is twice among the names
distinct-fold : (ms : List Meaning) (ts : List NameText)
    → IsDistinct bytes_eq ts → IsDistinct bytes_eq (fold with_name ts ms)
distinct-fold [] ts d = d
distinct-fold (m ∷ ms) ts d = distinct-fold ms (with_name ts m) (search (rules, IsDistinct-push, nat_list_eq_equiv))

pub distinct_names : (os : List OccurrenceRead) → IsDistinct bytes_eq (names_in_order os)
unfolding IsDistinct
distinct_names os = distinct-fold (meanings os) [] tt

is_number-resolved_meaning : (names : List NameText) (u : NameText) (id : ℕ) → IsDistinct bytes_eq names
    → id < length names → is_number id (resolved_meaning names (One u)) ≡ bytes_eq (get_or names id []) u
is_number-resolved_meaning [] u id d h = absurd (omega arith)
is_number-resolved_meaning (n ∷ ns) u zero d h = search rules
is_number-resolved_meaning (n ∷ ns) u (suc j) d h =
    let apart = apart_from_distinct bytes_eq (n ∷ ns) 0 (suc j) [] d (omega arith) h in
    let rest = is_number-resolved_meaning ns u j (IsDistinct-tail bytes_eq n ns d) (omega arith) in
    grind (arith, nat_tests, bytes_eq-Decides u n, nat_list_eq_equiv.symm (get_or ns j []) n)

pub is_number-means : (names : List NameText) (m : Meaning) (id : ℕ)
    → IsDistinct bytes_eq names → id < length names
    → is_number id (resolved_meaning names m) ≡ means (get_or names id []) m
is_number-means names m id d h = search (rules, is_number-resolved_meaning)

-- each of the names in order is a full name
means-one : (t : NameText) (m : Meaning) → means t m ≡ true → m ≡ One t
means-one t m h = grind (arith, nat_tests, bytes_eq-Decides)

meant_name : (os : List OccurrenceRead) (o : OccurrenceRead) (t : NameText)
    → Contains os o → meaning (full_names os) o ≡ One t → Contains (full_names os) t
meant_name os o t c is = (let fits = only_with-fits (full_names os) (full_names os) (prefix o.text)
    (itself (full_names os)) in
    let listed = into_map (λ (o : OccurrenceRead). o.text) (filter (λ o. not o.is_abbreviation) os) o in
    grind (arith, nat_tests, listed, into_filter (λ o. not o.is_abbreviation) os o c))

pub names_are_full : (os : List OccurrenceRead) (t : NameText)
    → Contains (names_in_order os) t → Contains (full_names os) t
names_are_full os t c = (let any = list_any-from_Contains nat_list_eq_equiv t (names_in_order os) c in
    let o = Any-from_list_any (resolves_to os t) os (cc (named_if_resolved os t)) in meant_name os o.1 t
    (o.0, o.2, o.3) (means-one t (meaning (full_names os) o.1) o.4))

pub firsts_are : (os : List OccurrenceRead) (counted : Counted) (numbers : List ℕ)
    → length numbers ≡ length (names_in_order os)
    → ((id : ℕ) → id < length (names_in_order os) → get_or numbers id 0 ≡ first_by_number (resolve os) counted os id)
    → numbers
    ≡ map (λ name. position_or_len (λ o. is_counted counted o && resolves_to os name o) os) (names_in_order os)
firsts_are os counted numbers size known =
    let names = names_in_order os in
    let first : NameText → ℕ = λ name. position_or_len (λ o. is_counted counted o && resolves_to os name o) os in
    ext_get_or 0 numbers (map first names) (omega (arith, size, length-map names first)) (λ id h.
    let inside : id < length names = omega (arith, size) in known id inside
    ∙ (search (rules, is_number-means, distinct_names))
    ∙ sym (get_or-map first names id [] 0 inside))

-- the names and resolutions that are made from the meanings among these texts
pub meant_by : (os : List OccurrenceRead) (texts : List NameText) (ms : List Meaning)
    → SameTexts (full_names os) texts → ms ≡ map (meaning texts) os
    → (names_of ms ≡ names_in_order os) × (map (resolved_meaning (names_of ms)) ms ≡ map (resolve os) os)
meant_by os texts ms same are =
    search (rules, only_with-same, map-map)
