-- The last slash and the dots of a name.
use Rattle.std.proofs.Common.{rules}
use Rattle.std.proofs.Common.{◌≡◌, ℕ, ◌+◌, ◌-◌, Bool, false, not, List, [], ◌∷◌, suc, ◌<◌, ◌||◌, length, get_or}
use Rattle.std.proofs.Common.{refl, ap, sym, ◌∙◌, arith, Option, Some, None, is_some}
use Rattle.std.specs.List.{suffix_len, list_any}
use Rattle.std.proofs.lemmas.Bool.{false_from_ne_true}
use Rattle.std.proofs.lemmas.List.Sums.{suffix_len_is}
use Rattle.std.proofs.lemmas.List.Folds.{list_any_at}
use Rattle.bstr.specs.Find.{IsFirstByte, IsLastByte}

module _ (test : ℕ → Bool) (name : List ℕ) where
  -- where the part after the last byte that passes the test begins
  pub past-last : (k : ℕ) → IsLastByte test name (Some k)
      → length name - suffix_len (λ b. not (test b)) name ≡ k + 1
  past-last k h =
      let place : k + 1 - 1 ≡ k = omega arith in
      search (rules, suffix_len_is)

  pub past-none : IsLastByte test name None → length name - suffix_len (λ b. not (test b)) name ≡ 0
  past-none h =
      let last = suffix_len_is (λ b. not (test b)) name 0 0 (omega arith)
      (λ j after within. ap not (false_from_ne_true _ (h j after within)))
      (λ some. absurd (omega arith)) in
      omega arith

none_passes : (test : ℕ → Bool) (bytes : List ℕ)
    → ((j : ℕ) → j < length bytes → test (get_or bytes j 0) ≡ false) → false ≡ list_any test bytes
none_passes test [] none = refl
none_passes test (b ∷ bytes) none =
    none_passes test bytes (λ j l. none (suc j) (omega arith))
    ∙ ap (λ t. t || list_any test bytes) (sym (none 0 (omega arith)))

-- some byte passes the test if a first one is found
pub passes-found : (test : ℕ → Bool) (bytes : List ℕ) (r : Option ℕ)
    → IsFirstByte test bytes r → is_some r ≡ list_any test bytes
passes-found test bytes r h = search (rules, list_any_at, none_passes)
