-- What is an element, and the elements of a text that is one.
use Rattle.std.proofs.lemmas.Bool.{and_right}
use Rattle.std.proofs.Common.{false, length}
use Rattle.std.proofs.Common.{rules}
use Rattle.std.proofs.Common.{◌≡◌, ℕ, true, List, [], ◌∷◌, ◌++◌, refl, ap, sym, ◌∙◌}
use Rattle.std.proofs.Common.{append-nil, arith}
use Rattle.std.specs.Prelude.{◌&&◌, ◌||◌, not, ◌==◌}
use Rattle.std.proofs.lemmas.Bool.{and_parts, or_cases, or_left, or_right}
use Rattle.std.proofs.lemmas.Bool.{not-true}
use Rattle.c_tokens.specs.Bytes.{backslash, line_feed}
use Rattle.c_tokens.specs.Grammar.{is_identifier}
use Rattle.c_tokens.specs.Grammar.{is_token, is_comment}
use Rattle.c_tokens.specs.Grammar.{is_white_character, is_element}
use Rattle.c_tokens.specs.Reading.{spliced, elements_from}
use Rattle.c_tokens.specs.Touching.{is_plain_word, is_plain}
use Rattle.c_tokens.specs.Borders.{last_byte, keep_lines}
use Rattle.c_tokens.proofs.GrammarLemmas.{all-weaker}
use Rattle.c_tokens.proofs.NumberLemmas.{separated-names, word-separated}
use Rattle.std.proofs.lemmas.Bool.{and_from}
use Rattle.c_tokens.proofs.ReadingLemmas.{elements-front}
use Rattle.std.proofs.lemmas.Bool.Decides.{nat_tests}

-- what is an element

pub single-element : (b : ℕ) → is_element (b ∷ []) ≡ true
unfolding is_element is_token
single-element b = grind (arith, nat_tests)

pub comment-element : (t : List ℕ) → is_comment t ≡ true → is_element t ≡ true
unfolding is_element
comment-element t h = or_left (is_white_character t || is_comment t) (is_token t) (or_right (is_white_character t) (is_comment t) h)

pub token-element : (t : List ℕ) → is_token t ≡ true → is_element t ≡ true
unfolding is_element
token-element t h = or_right (is_white_character t || is_comment t) (is_token t) h

word-identifier : (t : List ℕ) → is_plain_word t ≡ true → is_identifier t ≡ true
word-identifier t h =
    search (rules, all-weaker, or_left, and_parts, and_from, separated-names, word-separated)

pub plain-token : (t : List ℕ) → is_plain t ≡ true → is_token t ≡ true
unfolding is_token
plain-token t h = grind (arith, nat_tests, or_cases, word-identifier)

pub plain-element : (t : List ℕ) → is_plain t ≡ true → is_element t ≡ true
plain-element t h = token-element t (plain-token t h)

pub one-element : (b : ℕ) (a : List ℕ) → is_element (b ∷ a) ≡ true → elements_from 0 (b ∷ a) ≡ (b ∷ a) ∷ []
one-element b a h =
    ap (elements_from 0) (sym (append-nil (b ∷ a))) ∙ elements-front b a [] h
    (λ c q rest same. absurd (omega (arith, ap length same)))

pub last-append : (x : ℕ) (a : List ℕ) (c : ℕ) (t : List ℕ) → last_byte x (a ++ c ∷ t) ≡ last_byte c t
last-append x [] c t = refl
last-append x (y ∷ a) c t = last-append y a c t

-- backslashes before line feeds

spliced-bytes : (x : ℕ) (a : List ℕ) (c : ℕ) (r : List ℕ) → not (last_byte x a == backslash && c == line_feed) ≡ true →
    spliced (x ∷ a ++ c ∷ r) ≡ spliced (x ∷ a) ++ spliced (c ∷ r)
spliced-bytes x [] c r kept = rw (not-true (x == backslash && c == line_feed) kept) refl
spliced-bytes x (d ∷ []) c r kept = grind (arith, nat_tests)
spliced-bytes x (d ∷ e ∷ a) c r kept = grind (arith, nat_tests, spliced-bytes e a c r kept)

pub spliced-both : (a b : List ℕ) → keep_lines a b ≡ true → spliced (a ++ b) ≡ spliced a ++ spliced b
spliced-both a b kept = search (rules, spliced-bytes)

pub keep-other : (a : List ℕ) (c : ℕ) (r : List ℕ) → (c == line_feed) ≡ false → keep_lines a (c ∷ r) ≡ true
keep-other a c r other = search (rules, and_right)
