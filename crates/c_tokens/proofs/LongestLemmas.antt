-- The longest front is the longest, and the elements are the whole text.
use Rattle.std.proofs.Common.{rules}
use Rattle.std.proofs.Common.{◌≡◌, ℕ, ◌-◌, ◌<◌, ◌≤◌, zero, suc, Bool, true, List, [], ◌∷◌, ◌++◌, length, take, drop}
use Rattle.std.proofs.Common.{refl, arith}
use Rattle.std.specs.List.{concat}
use Rattle.std.proofs.lemmas.List.{take-append-drop}
use Rattle.c_tokens.specs.Grammar.{is_element}
use Rattle.c_tokens.specs.Reading.{longest, elements_from}
use Rattle.c_tokens.proofs.ReadingLemmas.{counted, longer}
use Rattle.c_tokens.proofs.ElementLemmas.{single-element}
use Rattle.std.proofs.lemmas.Bool.Decides.{nat_tests}

pub longest_most : (test : List ℕ → Bool) (b : List ℕ) (n : ℕ) → n ≤ length b → test (take n b) ≡ true → n ≤ longest test b
longest_most test b zero within h = omega arith
longest_most test [] (suc n) within h = absurd (omega arith)
longest_most test (x ∷ b) (suc zero) within h = grind (arith, nat_tests)
longest_most test (x ∷ b) (suc (suc n)) within h = grind (arith, nat_tests, longest_most (λ t. test (x ∷ t)) b (suc n))

longest-passes : (test : List ℕ → Bool) (b : List ℕ) → 0 < longest test b → test (take (longest test b) b) ≡ true
longest-passes test [] h = absurd (omega arith)
longest-passes test (x ∷ b) h = go (longest (λ t. test (x ∷ t)) b) h (longest-passes (λ t. test (x ∷ t)) b)
  where
    go : (more : ℕ) → 0 < counted test x more → (0 < more → test (x ∷ take more b) ≡ true) →
        test (take (counted test x more) (x ∷ b)) ≡ true
    go zero h rest = search rules
    go (suc more) h rest = search (rules, longer)

pub longest-one : (b : ℕ) (rest : List ℕ) → 1 ≤ longest is_element (b ∷ rest)
longest-one b rest = longest_most is_element (b ∷ rest) 1 (omega arith) (single-element b)

pub longest_is : (b : ℕ) (rest : List ℕ) → is_element (take (longest is_element (b ∷ rest)) (b ∷ rest)) ≡ true
longest_is b rest = longest-passes is_element (b ∷ rest) (longest-one b rest)

pub elements_all : (n : ℕ) (a : List ℕ) → concat (elements_from n a) ≡ drop n a
elements_all zero [] = refl
elements_all (suc n) [] = refl
elements_all (suc n) (x ∷ a) = elements_all n a
elements_all zero (x ∷ a) =
    go (longest is_element (x ∷ a)) (longest-one x a) (elements_all (longest is_element (x ∷ a) - 1) a)
  where
    go : (k : ℕ) → 1 ≤ k → concat (elements_from (k - 1) a) ≡ drop (k - 1) a →
        take k (x ∷ a) ++ concat (elements_from (k - 1) a) ≡ x ∷ a
    go zero h rest = search rules
    go (suc k) h rest = search (rules, take-append-drop)

pub ruleset are_longest = (elements_all, longest_is, longest_most)
