-- The sorted full names: how a sort gives them, and where those are that begin with a prefix.
use Rattle.std.proofs.Common.{rules}
use Rattle.std.proofs.lemmas.Bool.Decides.{nat_tests}
use Rattle.std.proofs.Common.{◌≡◌, ◌<◌, ◌+◌, ℕ, zero, suc, true, false, List, [], if◌then◌else◌}
use Rattle.std.proofs.Common.{◌∷◌, length, get_or, refl, arith, filter}
use Rattle.std.specs.Borrow.{Bor}
use Rattle.std.specs.List.{AllByRecursion}
use Rattle.std.specs.Ordering.{nat_cmp, is_lt}
use Rattle.std.specs.declared.cmp.Ordering.TheVariants.{Less, Equal}
use Rattle.std.specs.Cmp.Lexicographic.{slice_cmp}
use Rattle.std.specs.List.Sorted.{IsPartitionedBy, IsSorted, IsPermutation}
use Rattle.std.specs.List.{dedup, dedup_from}
use Rattle.std.specs.Str.{bytes_eq}
use Rattle.std.specs.Cmp.Lexicographic.{texts_ties}
use Rattle.std.proofs.lemmas.Cmp.{nat_list_eq_equiv}
use Rattle.std.proofs.lemmas.List.Kept.{Contains-dedup, Contains-from_dedup, IsStrictlySortedBy-dedup}
use Rattle.std.proofs.lemmas.List.Sorted.{IsPermutation-map, IsPermutation-sym, Contains-permutation}
use Rattle.tangle_names.specs.Sorted.{SameTexts}
use Rattle.std.proofs.lemmas.Cmp.{nat_list_cmp_total}
use Rattle.std.proofs.lemmas.List.{get_or-map, length-map}
use Rattle.std.proofs.lemmas.Map.Keys.{Less-from_sorted, sorted_head, sorted_tail}
use Rattle.std.proofs.lemmas.Slice.Eq.{bytes_eq-Decides}
use Rattle.tangle_names.specs.Names.{NameText, Meaning, Nothing, One, Several, begins_with, only_with}
use Rattle.tangle_names.specs.Sorted.{IsInOrder, begins_at, borrowed_names}
use Rattle.tangle_names.proofs.OrderLemmas.{begins-above, begins-between}

pub size : (sorted : List (Bor NameText)) → length (borrowed_names sorted) ≡ length sorted
size sorted = length-map sorted (λ (b : Bor NameText). b.now)

pub at_text : (sorted : List (Bor NameText)) (k : ℕ) (d : Bor NameText)
    → k < length sorted → get_or (borrowed_names sorted) k [] ≡ (get_or sorted k d).now
at_text sorted k d h = get_or-map (λ (b : Bor NameText). b.now) sorted k d [] h

pub alike : (t : NameText) → slice_cmp nat_cmp t t ≡ Equal
alike t = grind (arith, nat_tests, nat_list_cmp_total.antisymm t t)

-- what a prefix means, where this is the first position of a text that is not below it
abbrev pub meaning_at : List NameText → NameText → ℕ → Meaning
meaning_at texts p first =
    if begins_at texts p first
    then (if begins_at texts p (first + 1) then Several else One (get_or texts first []))
    else Nothing

-- after a text that is not below a prefix and does not have it, no text has it
none_after : (p t : NameText) (ts : List NameText)
    → AllByRecursion (λ u. slice_cmp nat_cmp t u ≡ Less) ts → is_lt (slice_cmp nat_cmp t p) ≡ false
    → begins_with p t ≡ false → filter (begins_with p) ts ≡ []
none_after p t [] above low fails = refl
none_after p t (u ∷ ts) above low fails =
    grind (arith, nat_tests, begins-between p t u, none_after p t ts)

pub meant_at : (texts : List NameText) (p : NameText) (first : ℕ) → IsInOrder texts
    → ((k : ℕ) → k < first → k < length texts → is_lt (slice_cmp nat_cmp (get_or texts k []) p) ≡ true)
    → (first < length texts → is_lt (slice_cmp nat_cmp (get_or texts first []) p) ≡ false)
    → only_with texts p ≡ meaning_at texts p first
meant_at [] p first up below above = grind (arith, nat_tests)
meant_at (t ∷ ts) p (suc k) up below above =
    let low : is_lt (slice_cmp nat_cmp t p) ≡ true = below 0 (omega arith) (omega arith) in
    let rest = meant_at ts p k (sorted_tail (slice_cmp nat_cmp) t ts up)
    (λ j low h. below (suc j) (omega arith) (omega arith)) (λ h. above (omega arith)) in
    grind (arith, nat_tests, begins-above p t, rest)
meant_at (t ∷ []) p zero up below above = grind (arith, nat_tests)
meant_at (t ∷ u ∷ us) p zero up below above =
    let high : is_lt (slice_cmp nat_cmp t p) ≡ false = above (omega arith) in
    let more = sorted_tail (slice_cmp nat_cmp) t (u ∷ us) up in
    let after = sorted_head (slice_cmp nat_cmp) t (u ∷ us) up in
    let first = none_after p t (u ∷ us) after high in
    let second = none_after p u us (sorted_head (slice_cmp nat_cmp) u us more) in
    let order = nat_list_cmp_total.trans t u p in
    grind (arith, nat_tests, first, second, order, alike t, bytes_eq-Decides t u)

-- the first position of a name that isn't below a prefix
pub is_parted : (sorted : List (Bor NameText)) (p : NameText) → IsInOrder (borrowed_names sorted)
    → IsPartitionedBy (λ (b : Bor NameText). is_lt (slice_cmp nat_cmp b.now p)) sorted
is_parted sorted p up i j d low high is =
    let below = Less-from_sorted (slice_cmp nat_cmp) (borrowed_names sorted) i j [] up in
    let order = nat_list_cmp_total.trans (get_or sorted i d).now in
    grind (arith, nat_tests, size sorted, at_text sorted i d, at_text sorted j d, below, order)

-- the texts after a sort and a `dedup`
sorted_texts : (sorted : List (Bor NameText)) → IsSorted (λ (x y : Bor NameText). slice_cmp nat_cmp x.now y.now) sorted
    → IsSorted (slice_cmp nat_cmp) (borrowed_names sorted)
sorted_texts sorted up k d low high =
    let is = up k (record { ref_ptr = (0, 0); now = d }) low (omega (arith, size sorted)) in
    search (rules, get_or-map, size)

borrowed_names-dedup_from : (b : Bor NameText) (bs : List (Bor NameText))
    → borrowed_names (dedup_from (λ (x y : Bor NameText). bytes_eq x.now y.now) b bs)
    ≡ dedup_from bytes_eq b.now (borrowed_names bs)
borrowed_names-dedup_from b [] = refl
borrowed_names-dedup_from b (c ∷ cs) =
    grind (arith, nat_tests, borrowed_names-dedup_from b cs, borrowed_names-dedup_from c cs)

borrowed_names-dedup : (bs left : List (Bor NameText))
    → left ≡ dedup (λ (x y : Bor NameText). bytes_eq x.now y.now) bs
    → borrowed_names left ≡ dedup bytes_eq (borrowed_names bs)
borrowed_names-dedup bs left is = search (rules, borrowed_names-dedup_from)

pub order_of : (sorted left : List (Bor NameText))
    → IsSorted (λ (x y : Bor NameText). slice_cmp nat_cmp x.now y.now) sorted
    → left ≡ dedup (λ (x y : Bor NameText). bytes_eq x.now y.now) sorted → IsInOrder (borrowed_names left)
order_of sorted left up is = rw (borrowed_names-dedup sorted left is)
    (IsStrictlySortedBy-dedup nat_list_cmp_total texts_ties (borrowed_names sorted) (sorted_texts sorted up))

same_texts : (full sorted : List NameText) → IsPermutation full sorted
    → SameTexts full (dedup bytes_eq sorted)
same_texts full sorted moved = record {
  over = λ t c. Contains-dedup nat_list_eq_equiv (λ x y h. (bytes_eq-Decides x y).0 h) sorted t
      (Contains-permutation full sorted t moved c);
  back = λ t c. Contains-permutation sorted full t (IsPermutation-sym full sorted moved)
      (Contains-from_dedup bytes_eq sorted t c);
}

pub same_of : (full : List NameText) (names sorted left : List (Bor NameText))
    → borrowed_names names ≡ full → IsPermutation names sorted
    → left ≡ dedup (λ (x y : Bor NameText). bytes_eq x.now y.now) sorted → SameTexts full (borrowed_names left)
same_of full names sorted left e moved is = rw (borrowed_names-dedup sorted left is, ← e)
    (same_texts _ _ (IsPermutation-map (λ (b : Bor NameText). b.now) names sorted moved))
