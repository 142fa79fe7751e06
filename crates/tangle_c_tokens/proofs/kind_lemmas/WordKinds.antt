-- Words, numbers and signs are texts of the kinds that the table gives them.
use Rattle.std.proofs.Common.{rules}
use Rattle.std.proofs.Common.{arith}
use Rattle.std.proofs.Common.{◌≡◌, ℕ, ◌-◌, zero, suc, Bool, true, false, List, [], ◌∷◌, ◌++◌, refl, take}
use Rattle.std.specs.Prelude.{◌==◌}
use Rattle.std.specs.List.{list_any, list_all}
use Rattle.std.proofs.lemmas.Bool.{and_parts, or_left, or_parts}
use Rattle.c_tokens.specs.Bytes.{space, slash, backslash, is_digit, is_word_byte}
use Rattle.c_tokens.specs.Grammar.{is_comment, is_element}
use Rattle.c_tokens.specs.Reading.{spliced, longest, elements_from}
use Rattle.c_tokens.specs.Touching.TextKind.{Plain, Other}
use Rattle.tangle_c_tokens.specs.Kinds.{IsTextOfKind}
use Rattle.c_tokens.proofs.LongerLemmas.{all-last-byte}
use Rattle.c_tokens.proofs.NumberLemmas.{is_separated_byte, word-separated}
use Rattle.std.proofs.lemmas.Bool.Decides.{nat_tests}

abbrev is_open : List ℕ → Bool
is_open element = is_comment (element ++ space ∷ [])

-- no comment is in a text without a slash
no-comment : (n : ℕ) (a : List ℕ) → list_any (λ b. b == slash) a ≡ false
    → list_any is_open (elements_from n a) ≡ false
no-comment n [] h = refl
no-comment (suc n) (b ∷ a) h = no-comment n a (or_parts (b == slash) (list_any (λ c. c == slash) a) h).1
no-comment zero (b ∷ a) h =
    let parts = or_parts (b == slash) (list_any (λ c. c == slash) a) h in
    let n = longest is_element (b ∷ a) in
    rw (front parts.0 n, no-comment (n - 1) a parts.1) refl
  where
    front : (b == slash) ≡ false → (k : ℕ) → is_open (take k (b ∷ a)) ≡ false
    front other zero = search rules
    front other (suc k) = search rules

-- a byte that is none of those of a number is none of its bytes
not-in-number : (other : ℕ) → is_separated_byte other ≡ false → (a : List ℕ) → list_all is_separated_byte a ≡ true
    → list_any (λ b. b == other) a ≡ false
not-in-number other none [] h = refl
not-in-number other none (b ∷ a) h = grind (arith, nat_tests, not-in-number other none a)

no-splice : (a : List ℕ) → list_any (λ b. b == backslash) a ≡ false → spliced a ≡ a
no-splice [] h = refl
no-splice (b ∷ a) h = grind (arith, nat_tests, no-splice a)

number-spliced : (a : List ℕ) → list_all is_separated_byte a ≡ true → spliced a ≡ a
number-spliced a h = no-splice a (not-in-number backslash refl a h)

word-spliced : (a : List ℕ) → list_all is_word_byte a ≡ true → spliced a ≡ a
word-spliced a h = number-spliced a (word-separated a h)

-- a number is of the other kind, and a word that begins with no digit is plain

pub number-text : (b : ℕ) (a : List ℕ) → list_all is_separated_byte (b ∷ a) ≡ true → IsTextOfKind Other (b ∷ a)
number-text b a h = search (rules, number-spliced, no-comment, not-in-number slash refl)

pub plain-text : (b : ℕ) (a : List ℕ) → is_digit b ≡ false → list_all is_word_byte (b ∷ a) ≡ true
    → IsTextOfKind Plain (b ∷ a)
plain-text b a digit h = search (rules, word-spliced, or_left, and_parts, all-last-byte is_word_byte)
