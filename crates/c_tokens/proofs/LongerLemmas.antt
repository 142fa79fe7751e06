-- Texts that are no element: a text, and more after it.
use Rattle.std.proofs.Common.{rules}
use Rattle.std.proofs.Common.{arith}
use Rattle.std.proofs.Common.{◌≡◌, ℕ, Bool, true, false, List, [], ◌∷◌, ◌++◌, codes}
use Rattle.std.proofs.Common.{refl}
use Rattle.std.specs.Prelude.{not, ◌==◌}
use Rattle.std.specs.List.{list_any, list_all}
use Rattle.std.proofs.lemmas.Bool.{or_cases, and_parts, both_ways, false≢true}
use Rattle.std.proofs.lemmas.List.Folds.{list_all-append}
use Rattle.c_tokens.specs.Bytes.{space, line_feed}
use Rattle.c_tokens.specs.Grammar.{is_identifier, is_number}
use Rattle.c_tokens.specs.Grammar.{is_punctuator, is_other_character, is_token}
use Rattle.c_tokens.specs.Grammar.{ends_once, is_comment, is_white_character, is_element}
use Rattle.c_tokens.specs.Borders.{last_byte}
use Rattle.c_tokens.proofs.GrammarLemmas.{IsLiteral, literal-from_character, literal-from_string}
use Rattle.std.proofs.lemmas.Bool.Decides.{nat_tests}

-- a text of two bytes or more
abbrev pub AreSeveral : List ℕ → Type 0
AreSeveral t = (is_white_character t ≡ false) × (is_other_character t ≡ false)

pub two-bytes : (x : ℕ) (a : List ℕ) (b : ℕ) (q : List ℕ) → AreSeveral (x ∷ a ++ b ∷ q)
two-bytes x [] b q = (refl, refl)
two-bytes x (y ∷ a) b q = (refl, refl)

-- what an element of two bytes or more is
pub element-cases : {P : Type 0} (t : List ℕ) → AreSeveral t → is_element t ≡ true → (is_comment t ≡ true → P)
    → (is_identifier t ≡ true → P) → (is_number t ≡ true → P) → (IsLiteral t → P) → (is_punctuator t ≡ true → P) → P
unfolding is_element is_token
element-cases t several h comment identifier number literal punctuator =
    search (rules, or_cases, both_ways, literal-from_character, literal-from_string)

pub all-last : (test : ℕ → Bool) (a : List ℕ) (b : ℕ) (q : List ℕ) → list_all test (a ++ b ∷ q) ≡ true → test b ≡ true
all-last test a b q h = grind (arith, nat_tests, list_all-append test a (b ∷ q))

pub all-front : (test : ℕ → Bool) (a q : List ℕ) → list_all test (a ++ q) ≡ true → list_all test a ≡ true
all-front test a q h = grind (arith, nat_tests, list_all-append test a q)

pub all-last-byte : (test : ℕ → Bool) (x : ℕ) (a : List ℕ) → list_all test (x ∷ a) ≡ true → test (last_byte x a) ≡ true
all-last-byte test x [] h = (and_parts (test x) true h).0
all-last-byte test x (y ∷ a) h = all-last-byte test y a (and_parts (test x) (list_all test (y ∷ a)) h).1

abbrev pub separators : List ℕ
separators = codes "()[]{};,~"

abbrev pub operators : List ℕ
operators = codes "!#%&*+-/:<=>?^|"

-- what fails at each byte of a list fails at a byte in it
pub listed-not : (test : ℕ → Bool) (bs : List ℕ) → list_all (λ b. not (test b)) bs ≡ true → (b : ℕ) →
    list_any (λ c. b == c) bs ≡ true → test b ≡ false
listed-not test [] none b any = absurd (false≢true any)
listed-not test (c ∷ bs) none b any = grind (arith, nat_tests, listed-not test bs)

-- comments

ends_once-front : (a q : List ℕ) → ends_once (a ++ q) ≡ true → ends_once a ≡ true
ends_once-front (b ∷ c ∷ d ∷ a) q h = grind (arith, nat_tests, ends_once-front (c ∷ d ∷ a) q)
ends_once-front a q h = refl

ends_once-other : (a : List ℕ) (s : ℕ) (q : List ℕ) (t : ℕ) → ends_once (a ++ s ∷ q) ≡ true → ends_once (a ++ t ∷ []) ≡ true
ends_once-other (b ∷ c ∷ []) s q t h = grind (arith, nat_tests)
ends_once-other (b ∷ c ∷ d ∷ a) s q t h = grind (arith, nat_tests, ends_once-other (c ∷ d ∷ a) s q t)
ends_once-other a s q t h = refl

-- a comment that goes on after two bytes or more is a comment without that, and would take a space too
pub comment-open : (x y : ℕ) (a : List ℕ) (c : ℕ) (q : List ℕ) → is_comment (x ∷ y ∷ a ++ c ∷ q) ≡ true →
    (is_comment (x ∷ y ∷ a) ≡ true) × (is_comment (x ∷ y ∷ a ++ space ∷ []) ≡ true)
comment-open x y a c q is =
    grind (arith, nat_tests, ends_once-front a (c ∷ q), ends_once-other a c q space, list_all-append (λ d. not (d == line_feed)) a)
