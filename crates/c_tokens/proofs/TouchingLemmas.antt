-- The tokens of two texts that may touch.
use Rattle.std.proofs.Common.{rules}
use Rattle.std.proofs.Common.{◌≡◌, ℕ, Bool, true, false, List, [], ◌∷◌, ◌++◌, refl, ap, sym, ◌∙◌}
use Rattle.std.proofs.Common.{inl, inr, arith, length}
use Rattle.std.specs.Prelude.{◌&&◌, ◌||◌, not, ◌==◌}
use Rattle.std.specs.List.{list_any, list_all}
use Rattle.std.proofs.lemmas.Bool.{and_parts, or_cases, or_left, or_right}
use Rattle.std.proofs.lemmas.List.Elements.{filter-append}
use Rattle.c_tokens.specs.Bytes.{full_stop, is_digit, space, backslash, line_feed, is_word_byte, is_quote}
use Rattle.c_tokens.specs.Grammar.{is_character, is_string}
use Rattle.c_tokens.specs.Grammar.{is_comment}
use Rattle.c_tokens.specs.Grammar.{is_element}
use Rattle.c_tokens.specs.Reading.{spliced, elements_from, tokens}
use Rattle.c_tokens.specs.Touching.{TextKind, is_separator, is_operator, is_plain_word, is_plain, IsOfKind}
use Rattle.c_tokens.specs.Borders.{is_plain_byte, last_byte}
use Rattle.c_tokens.specs.Touching.{kinds_may_touch}
use Rattle.c_tokens.proofs.ReadingLemmas.{elements-append}
use Rattle.c_tokens.proofs.GrammarLemmas.{IsLiteral, literal-last, literal-from_character, literal-from_string}
use Rattle.c_tokens.proofs.GrammarLemmas.{number-first}
use Rattle.c_tokens.proofs.LongerLemmas.{separators, operators, listed-not, all-last-byte}
use Rattle.c_tokens.specs.Borders.{is_unfinished}
use Rattle.c_tokens.specs.Grammar.{is_number}
use Rattle.c_tokens.proofs.ElementLemmas.{single-element, one-element, plain-element, spliced-both, keep-other, last-append}
use Rattle.c_tokens.proofs.BorderLemmas.{border-literal, apart_tokens}
use Rattle.c_tokens.specs.Borders.{is_at_operator, are_apart, have_border}
use Rattle.std.proofs.lemmas.Bool.{both_ways, false_from_ne_true, and_from, or_parts}
use Rattle.std.proofs.lemmas.Bool.Decides.{nat_tests}

-- a separator after a text that opens no comment

abbrev is_open : List ℕ → Bool
is_open element = is_comment (element ++ space ∷ [])

elements-separator : (a : List ℕ) (s : ℕ) → is_separator s ≡ true → list_any is_open (elements_from 0 a) ≡ false →
    elements_from 0 (a ++ s ∷ []) ≡ elements_from 0 a ++ elements_from 0 (s ∷ [])
elements-separator a s h closed =
    elements-append s [] (λ n a. list_any is_open (elements_from n a) ≡ false) (λ n x a good. good)
    (λ x a good. grind (arith, nat_tests)) stays 0 a (omega arith) closed
  where
    stays : (x : ℕ) (a : List ℕ) → list_any is_open (elements_from 0 (x ∷ a)) ≡ false → (q rest : List ℕ) → [] ≡ q ++ rest →
        is_element (x ∷ a ++ s ∷ q) ≡ false
    stays x a closed [] rest same = false_from_ne_true (is_element (x ∷ a ++ s ∷ [])) λ is.
        let literal = border-literal [] x a s []
        (λ one. (or_parts (is_open (x ∷ a)) false (ap (list_any is_open) (sym (one-element x a one)) ∙ closed)).0)
        (search (rules, or_left, or_right)) is in
        both_ways (is_quote s) (listed-not is_quote separators refl s h)
        (ap is_quote (sym (last-append x a s [])) ∙ literal-last x (a ++ s ∷ []) literal)
    stays x a closed (d ∷ q) rest same = absurd (omega (arith, ap length same))

-- other texts that may touch have a border

sign-not : (test : ℕ → Bool) → list_all (λ b. not (test b)) separators ≡ true → list_all (λ b. not (test b)) operators ≡ true → (s : ℕ) →
    (is_separator s || is_operator s) ≡ true → test s ≡ false
sign-not test none others s h = search (rules, or_cases, listed-not test separators, listed-not test operators)

sign-apart : (s : ℕ) (b : List ℕ) → (is_separator s || is_operator s) ≡ true → have_border (s ∷ []) (spliced b) ≡ true →
    are_apart (s ∷ []) b ≡ true
sign-apart s b h border =
    let quote : is_quote s ≡ false = sign-not is_quote refl refl s h in
    let back : (s == backslash) ≡ false = sign-not (λ b. b == backslash) refl refl s h in
    grind (arith, nat_tests, one-element s [] (single-element s), quote, back)

separator-before : (s : ℕ) (b : List ℕ) → is_separator s ≡ true → have_border (s ∷ []) b ≡ true
separator-before s b h = search (rules, or_left, or_right)

separator-next : (a : List ℕ) (s : ℕ) → is_separator s ≡ true → have_border a (s ∷ []) ≡ true
separator-next a s h = search (rules, or_left, or_right)

-- after an element that is no number
operator-border : (x : ℕ) (a : List ℕ) (c : ℕ) (r : List ℕ) → is_element (x ∷ a) ≡ true → (is_digit x || x == full_stop) ≡ false →
    is_at_operator (last_byte x a) c ≡ true → have_border (x ∷ a) (c ∷ r) ≡ true
operator-border x a c r is other at =
    let word = false_from_ne_true (is_number (x ∷ a)) (λ number. both_ways (is_digit x || x == full_stop) other (number-first x a number)) in
    rw (one-element x a is, word) (search (rules, or_left, or_right))

operator-before : (o : ℕ) (b : List ℕ) → is_operator o ≡ true → is_plain b ≡ true → have_border (o ∷ []) b ≡ true
operator-before o [] h plain = refl
operator-before o (c ∷ r) h plain =
    operator-border o [] c r (single-element o) (listed-not (λ b. is_digit b || b == full_stop) operators refl o h)
    (or_left (is_operator o && is_plain_byte c) (is_plain_byte o && is_operator c) (and_from (is_operator o) (is_plain_byte c) h (grind (arith, nat_tests))))

plain-last : (x : ℕ) (a : List ℕ) → is_plain (x ∷ a) ≡ true → is_plain_byte (last_byte x a) ≡ true
plain-last x a h =
    elim (or_cases (is_plain_word (x ∷ a) || is_character (x ∷ a)) (is_string (x ∷ a)) h) [
      | inr string ↦ quoted (literal-from_string (x ∷ a) (or_left (is_string (x ∷ a)) _ string))
      | inl first ↦ elim (or_cases (is_plain_word (x ∷ a)) (is_character (x ∷ a)) first) [
        | inl word ↦ or_left (is_word_byte (last_byte x a)) (is_quote (last_byte x a))
            (all-last-byte is_word_byte x a (and_parts (not (is_digit x)) (list_all is_word_byte (x ∷ a)) word).1)
        | inr character ↦ quoted (literal-from_character (x ∷ a) (or_left (is_character (x ∷ a)) _ character))
      ]
    ]
  where
    quoted : IsLiteral (x ∷ a) → is_plain_byte (last_byte x a) ≡ true
    quoted l = or_right (is_word_byte (last_byte x a)) (is_quote (last_byte x a)) (literal-last x a l)

plain-whole : (t : List ℕ) → is_plain t ≡ true → not (list_any is_unfinished (elements_from 0 t)) ≡ true
plain-whole t h = search (rules, nat_tests, one-element, plain-element)

plain-border : (t : List ℕ) (o : ℕ) → is_plain t ≡ true → is_operator o ≡ true → have_border t (o ∷ []) ≡ true
plain-border [] o plain h = refl
plain-border (x ∷ a) o plain h =
    operator-border x a o [] (plain-element (x ∷ a) plain) (grind (arith, nat_tests)) (search (rules, and_from, or_right, plain-last))

plain-apart : (a : List ℕ) (s : ℕ) → is_plain (spliced a) ≡ true → (is_separator s || is_operator s) ≡ true →
    have_border (spliced a) (s ∷ []) ≡ true → are_apart a (s ∷ []) ≡ true
plain-apart a s plain h border =
    search (rules, and_from, plain-whole, keep-other a s [] (sign-not (λ b. b == line_feed) refl refl s h))

pub touching_tokens : (k g : TextKind) (a b : List ℕ) → IsOfKind k a → IsOfKind g b → kinds_may_touch k g ≡ true →
    tokens (a ++ b) ≡ tokens a ++ tokens b
touching_tokens k g a b of_a of_b may =
    search (rules, or_left, or_right, keep-other, listed-not, spliced-both, elements-separator, filter-append, apart_tokens, sign-apart, separator-before, separator-next, operator-before, plain-border, plain-apart)
