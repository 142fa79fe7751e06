-- A word that begins with a digit is one number, also with apostrophes between its digits and letters.
use Rattle.std.proofs.Common.{rules}
use Rattle.std.proofs.Common.{arith}
use Rattle.std.proofs.Common.{◌≡◌, ℕ, Bool, true, List, [], ◌∷◌, refl}
use Rattle.std.specs.Prelude.{◌||◌, ◌==◌}
use Rattle.std.proofs.lemmas.Bool.{and_parts, and_from, or_left, or_right}
use Rattle.std.specs.List.{list_all}
use Rattle.c_tokens.specs.Bytes.{apostrophe, is_digit, is_word_byte}
use Rattle.c_tokens.specs.Grammar.{is_number_byte, signs_follow_exponents, apostrophes_separate, has_universal_names, is_number}
use Rattle.c_tokens.proofs.GrammarLemmas.{all-weaker, number-from}
use Rattle.std.proofs.lemmas.Bool.Decides.{nat_tests}

-- a byte of a word, or an apostrophe
abbrev pub is_separated_byte : ℕ → Bool
is_separated_byte b = is_word_byte b || b == apostrophe

separated-signs : (a : List ℕ) → list_all is_separated_byte a ≡ true → signs_follow_exponents a ≡ true
separated-signs (b ∷ c ∷ a) h = search (rules, and_parts, and_from, or_right, separated-signs (c ∷ a))
separated-signs _ h = refl

pub separated-names : (a : List ℕ) → list_all is_separated_byte a ≡ true → has_universal_names a ≡ true
separated-names [] h = refl
separated-names (b ∷ a) h = grind (arith, nat_tests, separated-names a)

pub separated-number : (b : ℕ) (a : List ℕ) → is_digit b ≡ true → list_all is_separated_byte (b ∷ a) ≡ true →
    apostrophes_separate (b ∷ a) ≡ true → is_number (b ∷ a) ≡ true
separated-number b a digit all separate =
    let bytes = all-weaker is_separated_byte is_number_byte (λ b h. grind (arith, nat_tests)) (b ∷ a) all in
    grind (arith, nat_tests, number-from, bytes, separated-signs, separated-names)

-- a word has no apostrophes

pub word-separated : (a : List ℕ) → list_all is_word_byte a ≡ true → list_all is_separated_byte a ≡ true
word-separated = all-weaker is_word_byte is_separated_byte (λ b. or_left (is_word_byte b) (b == apostrophe))

-- an apostrophe before a byte of a word separates, if what follows goes on as a number of a word does
pub separates-more : (c : ℕ) (a : List ℕ) → is_word_byte c ≡ true → list_all is_separated_byte a ≡ true →
    apostrophes_separate (c ∷ a) ≡ true → apostrophes_separate (apostrophe ∷ c ∷ a) ≡ true
separates-more c [] word all h = search (rules, and_from, or_right)
separates-more c (d ∷ a) word all h = grind (arith, nat_tests, and_parts, and_from)

-- a byte of a word before what goes on as a number of a word does
pub separates-word : (b : ℕ) (a : List ℕ) → is_word_byte b ≡ true → apostrophes_separate a ≡ true →
    apostrophes_separate (b ∷ a) ≡ true
separates-word b a word h = search (rules, nat_tests, and_from, or_left)
