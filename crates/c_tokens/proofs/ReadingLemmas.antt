-- The longest front that passes a test, and the elements of two texts that are written together.
use Rattle.std.proofs.Common.{rules}
use Rattle.std.proofs.Common.{◌≡◌, ℕ, ◌+◌, ◌-◌, ◌<◌, ◌≤◌, zero, suc, Bool, true, false, List, [], ◌∷◌, ◌++◌, length}
use Rattle.std.proofs.Common.{refl, ap, ◌∙◌, arith}
use Rattle.std.specs.Prelude.{nat_lt, if◌then◌else◌}
use Rattle.std.proofs.lemmas.Bool.{lt-ltb}
use Rattle.std.proofs.lemmas.List.{take_at, take-append-le}
use Rattle.c_tokens.specs.Grammar.{is_element}
use Rattle.c_tokens.specs.Reading.{longest, elements_from}
use Rattle.std.proofs.lemmas.Bool.Decides.{nat_tests}

-- no text passes that is the first one and then a front of the second
abbrev pub NoLonger : (List ℕ → Bool) → List ℕ → List ℕ → Type 0
NoLonger test a b = (c : ℕ) (q rest : List ℕ) → b ≡ c ∷ q ++ rest → test (a ++ c ∷ q) ≡ false

abbrev pub counted : (List ℕ → Bool) → ℕ → ℕ → ℕ
counted test b more = if nat_lt 0 more then more + 1 else if test (b ∷ []) then 1 else 0

longest-none : (test : List ℕ → Bool) (b : List ℕ) → NoLonger test [] b → longest test b ≡ 0
longest-none test [] none = refl
longest-none test (c ∷ r) none =
    ap (counted test c) (longest-none (λ t. test (c ∷ t)) r (λ d q rest same. none c (d ∷ q) rest (ap (λ l. c ∷ l) same)))
    ∙ rw (none c [] r refl) refl

pub longer : (test : List ℕ → Bool) (x n : ℕ) → 0 < n → counted test x n ≡ suc n
longer test x n h = rw (lt-ltb 0 n h) (omega arith)

longest-front : (test : List ℕ → Bool) (x : ℕ) (a b : List ℕ) → test (x ∷ a) ≡ true → NoLonger test (x ∷ a) b →
    longest test (x ∷ a ++ b) ≡ length (x ∷ a)
longest-front test x [] b h none = ap (counted test x) (longest-none (λ t. test (x ∷ t)) b none) ∙ rw h refl
longest-front test x (y ∷ a) b h none =
    ap (counted test x) (longest-front (λ t. test (x ∷ t)) y a b h none) ∙ longer test x (length (y ∷ a)) (omega arith)

-- bytes with which no text passes change nothing
longest-append : (test : List ℕ → Bool) (a : List ℕ) (c : ℕ) (r : List ℕ) →
    ((q rest : List ℕ) → r ≡ q ++ rest → test (a ++ c ∷ q) ≡ false) → longest test (a ++ c ∷ r) ≡ longest test a
longest-append test [] c r none = grind (arith, nat_tests, longest-none test (c ∷ r))
longest-append test (x ∷ a) c r none = ap (counted test x) (longest-append (λ t. test (x ∷ t)) a c r none)

longest-within : (test : List ℕ → Bool) (a : List ℕ) → longest test a ≤ length a
longest-within test [] = omega arith
longest-within test (x ∷ a) = grind (arith, nat_tests, longest-within (λ t. test (x ∷ t)) a)

elements-passed : (a b : List ℕ) → elements_from (length a) (a ++ b) ≡ elements_from 0 b
elements-passed [] b = refl
elements-passed (x ∷ a) b = elements-passed a b

-- an element with which no longer one begins is the first element
pub elements-front : (x : ℕ) (a b : List ℕ) → is_element (x ∷ a) ≡ true → NoLonger is_element (x ∷ a) b →
    elements_from 0 (x ∷ a ++ b) ≡ (x ∷ a) ∷ elements_from 0 b
elements-front x a b h none = search (rules, longest-front, take_at, elements-passed)

-- The elements of a text and of what follows, if no element has a front of what follows in it.
-- `Good n a` says so, and stays true from each element to the next.
module _ (c : ℕ) (r : List ℕ) (Good : ℕ → List ℕ → Type 0)
    (passed : (n x : ℕ) (a : List ℕ) → Good (suc n) (x ∷ a) → Good n a)
    (next : (x : ℕ) (a : List ℕ) → Good 0 (x ∷ a) → Good (longest is_element (x ∷ a) - 1) a)
    (stays : (x : ℕ) (a : List ℕ) → Good 0 (x ∷ a) → (q rest : List ℕ) → r ≡ q ++ rest → is_element (x ∷ a ++ c ∷ q) ≡ false)
  where
    pub elements-append : (n : ℕ) (a : List ℕ) → n ≤ length a → Good n a →
        elements_from n (a ++ c ∷ r) ≡ elements_from n a ++ elements_from 0 (c ∷ r)
    elements-append zero [] within good = refl
    elements-append (suc n) [] within good = absurd (omega arith)
    elements-append (suc n) (x ∷ a) within good = elements-append n a (omega arith) (passed n x a good)
    elements-append zero (x ∷ a) within good =
        grind (
          arith,
          longest-append is_element (x ∷ a) c r (stays x a good),
          take-append-le (longest is_element (x ∷ a)) (x ∷ a) (c ∷ r) (longest-within is_element (x ∷ a)),
          longest-within is_element (x ∷ a),
          elements-append (longest is_element (x ∷ a) - 1) a,
          next x a good,
        )
