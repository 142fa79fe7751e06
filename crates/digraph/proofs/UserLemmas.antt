-- The nodes that use a node: the numbers of the rows that have it.
use Rattle.std.proofs.Common.{rules}
use Rattle.std.proofs.lemmas.Bool.Decides.{nat_tests}
use Rattle.std.proofs.Common.{◌≡◌, ◌<◌, ◌+◌, ◌∙◌, ℕ, zero, suc, Bool, true, cond, eqb, List, [], ◌∷◌}
use Rattle.std.proofs.Common.{◌++◌, length, take, get_or, filter, refl, ap, sym, subst, arith, add-one}
use Rattle.std.proofs.Common.{zero-add, Contains, ◌⊎◌, inl, inr, true≢false}
use Rattle.std.specs.List.{list_any, range_with_len}
use Rattle.std.specs.List.Sorted.{IsStrictlyIncreasing}
use Rattle.std.proofs.lemmas.Bool.{cases_Bool}
use Rattle.std.proofs.lemmas.Bool.Decides.{Decides-eqb}
use Rattle.std.proofs.lemmas.List.{get_or_past, length-take-le, get_or-take, map-id}
use Rattle.std.proofs.lemmas.List.Folds.{list_any_more, Any-from_list_any, list_any-from_Any}
use Rattle.std.proofs.lemmas.List.FromFn.{length-range_with_len, get_or-range_with_len, map-range_with_len_more}
use Rattle.std.proofs.lemmas.List.Elements.{All-contains, Contains-append_left, Contains-push, filter-append}
use Rattle.std.proofs.lemmas.List.Elements.{filter_passes}
use Rattle.std.proofs.lemmas.List.Kept.{AllPairs-from_increasing, IsStrictlyIncreasing-filter}
use Rattle.std.proofs.Math.Decide.{ℕ_discrete}
use Rattle.digraph.specs.Graph.{Graph, InRange, row_at}
use Rattle.digraph.specs.Rows.{IsRowsOf, IsReversed}
use Rattle.digraph.specs.Users.{numbers_where, users_of}
use Rattle.digraph.proofs.GraphLemmas.{node_in, use_in}

pub range_push : (n : ℕ) → range_with_len 0 (n + 1) ≡ range_with_len 0 n ++ n ∷ []
range_push n =
    sym (map-id (range_with_len 0 (n + 1))) ∙ map-range_with_len_more (λ k. k) 0 n n (zero-add n)
    ∙ ap (λ l. l ++ n ∷ []) (map-id (range_with_len 0 n))

pub numbers_more : (p : ℕ → Bool) (n : ℕ) → numbers_where p (n + 1) ≡ numbers_where p n ++ cond (p n) (n ∷ []) []
numbers_more p n = ap (filter p) (range_push n) ∙ filter-append p (range_with_len 0 n) (n ∷ [])

pub in_range : (n k : ℕ) → k < n → Contains (range_with_len 0 n) k
in_range n k h = (k, omega (arith, length-range_with_len 0 n), get_or-range_with_len 0 n k k h ∙ zero-add k)

into_numbers : (p : ℕ → Bool) (n k : ℕ) → k < n → p k ≡ true → Contains (numbers_where p n) k
into_numbers p zero k h is = absurd (omega arith)
into_numbers p (suc n) k h is = subst (λ l. Contains l k) (sym (rw add-one at (numbers_more p n)))
    (elim (ℕ_discrete k n) [
      | yes e ↦ (let here : p n ≡ true = ap p (sym e) ∙ is in rw (e, here) (Contains-push (numbers_where p n) n))
      | no other ↦ Contains-append_left (numbers_where p n) _ k (into_numbers p n k (omega arith) is)
    ])

rising : (p : ℕ → Bool) (n : ℕ) → IsStrictlyIncreasing (numbers_where p n)
rising p n =
    let size = length-range_with_len 0 n in
    let read = λ (k : ℕ). get_or-range_with_len 0 n k 0 in
    IsStrictlyIncreasing-filter p (range_with_len 0 n) (λ k h. omega (arith, size, read k, read (k + 1)))

-- a number is not twice in a row that increases
not_before : (row : List ℕ) (j m : ℕ) → IsStrictlyIncreasing row → j < length row → get_or row j 0 ≡ m
    → list_any (λ x. eqb x m) (take j row) ≡ true → ⊥
not_before row j m up h e is =
    let found = Any-from_list_any (λ x. eqb x m) (take j row) is in
    let low : found.0 < j = omega (arith, length-take-le j row) in
    let less = AllPairs-from_increasing row up found.0 j found.1 low h in
    search (rules, get_or-take)

pub added_more : (row : List ℕ) (j n m : ℕ) → IsStrictlyIncreasing row → j < length row
    → cond (list_any (λ x. eqb x m) (take (j + 1) row)) (n ∷ []) []
    ≡ cond (list_any (λ x. eqb x m) (take j row)) (n ∷ []) [] ++ cond (eqb (get_or row j 0) m) (n ∷ []) []
added_more row j n m up h = grind (arith, nat_tests, list_any_more (λ x. eqb x m) row j 0 h, not_before row j m up h)

pub tested : (row : List ℕ) (m : ℕ) → list_any (λ x. eqb x m) row ≡ true → Contains row m
tested row m is = grind (arith, nat_tests, Any-from_list_any (λ x. eqb x m) row is)

pub passed : (row : List ℕ) (m : ℕ) → Contains row m → list_any (λ x. eqb x m) row ≡ true
passed row m c = list_any-from_Any (λ x. eqb x m) row (c.0, m, c.1, c.2, (Decides-eqb m m).1 refl)

-- a number is in a list or not
pub among : (xs : List ℕ) (n : ℕ) → Contains xs n ⊎ (Contains xs n → ⊥)
among xs n = elim (cases_Bool (list_any (λ x. eqb x n) xs)) [
  | inl is ↦ inl (tested xs n is)
  | inr is ↦ inr (λ c. true≢false (sym (passed xs n c) ∙ is))
]

module _ (uses users : Graph) (range : InRange uses)
    (is : IsRowsOf (length uses) (users_of uses (length uses)) users) where
  abbrev has : ℕ → ℕ → Bool
  has m k = list_any (λ x. eqb x m) (row_at uses k)

  pub is_reversed : IsReversed uses users
  is_reversed = record {
    size = is.size;
    increasing = λ m. grind (arith, nat_tests, rising (has m) (length uses), get_or_past users m);
    reversed = λ n m. (
      λ u. tested (row_at uses n) m (All-contains (λ k. has m k ≡ true) (users_of uses (length uses) m) n
          (filter_passes (has m) (range_with_len 0 (length uses)))
          (subst (λ row. Contains row n) (is.row m (omega (arith, is.size, node_in users m n u))) u)),
      λ u. subst (λ row. Contains row n) (sym (is.row m (use_in uses range n m u)))
          (into_numbers (has m) (length uses) n (node_in uses n m u) (passed (row_at uses n) m u)),
    );
  }
