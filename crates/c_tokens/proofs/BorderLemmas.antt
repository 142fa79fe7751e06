-- The elements of two texts with a border between them.
use Rattle.std.proofs.Common.{rules}
use Rattle.std.proofs.Common.{◌≡◌, ℕ, ◌-◌, zero, suc, Bool, true, false, List, [], ◌∷◌, ◌++◌, refl, ap, sym, subst}
use Rattle.std.proofs.Common.{◌∙◌, ◌⊎◌, inl, inr, get_or, take, drop, append_assoc, arith}
use Rattle.std.specs.Prelude.{◌&&◌, ◌||◌, not, ◌==◌}
use Rattle.std.specs.List.{list_any, list_all, concat, flat_map}
use Rattle.std.proofs.lemmas.Bool.{and_parts, and_from, and_left, and_right, or_cases, or_left, or_right, or_from, or_parts, both_ways}
use Rattle.std.proofs.lemmas.Bool.{not-true, false_from_ne_true, eqb-true}
use Rattle.std.proofs.lemmas.List.Elements.{filter-append}
use Rattle.c_tokens.specs.Bytes.{space, slash, backslash}
use Rattle.c_tokens.specs.Bytes.{is_hexadecimal, is_word_byte, is_quote, is_sign, is_exponent}
use Rattle.c_tokens.specs.Grammar.{begins_hexadecimal, has_universal_names, is_identifier_byte}
use Rattle.c_tokens.specs.Grammar.{begins_number, is_number_byte, signs_follow_exponents, apostrophes_separate, is_number, is_quoted, ends_quoted}
use Rattle.c_tokens.specs.Grammar.{has_prefix, is_token, is_comment, is_element}
use Rattle.c_tokens.specs.Reading.{spliced, longest, elements_from, tokens}
use Rattle.c_tokens.specs.Touching.{is_operator, is_plain}
use Rattle.c_tokens.specs.Borders.{is_unfinished, last_element, last_byte, is_plain_byte, are_never_in_one}
use Rattle.c_tokens.specs.Borders.{is_at_operator, number_goes_on, is_border, have_border, are_apart, has_bytes, are_all_apart}
use Rattle.c_tokens.proofs.ReadingLemmas.{NoLonger, elements-front, elements-append}
use Rattle.c_tokens.proofs.GrammarLemmas.{identifier-bytes, number-parts, number-from, number-first, punctuator-is}
use Rattle.c_tokens.proofs.GrammarLemmas.{identifier-bytes, begins_prefix, IsLiteral, ends-once}
use Rattle.c_tokens.proofs.LongerLemmas.{element-cases, all-last, all-front, all-last-byte, separators, operators, listed-not}
use Rattle.c_tokens.proofs.LongerLemmas.{comment-open, AreSeveral, two-bytes}
use Rattle.c_tokens.proofs.ElementLemmas.{single-element, comment-element, token-element, one-element, plain-element}
use Rattle.c_tokens.proofs.ElementLemmas.{spliced-both}
use Rattle.std.proofs.lemmas.Bool.Decides.{nat_tests}

-- classes of bytes

-- white space and separators
abbrev gaps : List ℕ
gaps = 32 ∷ 9 ∷ 10 ∷ 11 ∷ 12 ∷ separators

-- Two bytes at a border: no token has both, the first one ends a comment, or one is an operator. `inside` says whether
-- a byte is before them.
abbrev is_cut : Bool → ℕ → ℕ → Bool
is_cut inside d c = are_never_in_one d c || inside && d == slash

abbrev is_met : Bool → ℕ → ℕ → Bool
is_met inside d c = is_cut inside d c || is_at_operator d c

-- a test that these bytes fail, as those of words and numbers, fails at a border

cut-fails : (test : ℕ → Bool) → list_all (λ b. not (test b)) (slash ∷ gaps) ≡ true → (inside : Bool) (d c : ℕ) →
    is_cut inside d c ≡ true → (test d && test c) ≡ false
cut-fails test none inside d c h =
    search (rules, or_cases, and_parts, and_left, and_right, or_left, or_right, listed-not test (slash ∷ gaps) none)

operator-fails : (test : ℕ → Bool) → list_all (λ b. not (test b)) operators ≡ true → (d c : ℕ) → is_at_operator d c ≡ true →
    (test d && test c) ≡ false
operator-fails test none d c h = search (rules, or_cases, and_parts, and_left, and_right, listed-not test operators none)

met-fails : (test : ℕ → Bool) → list_all (λ b. not (test b)) (slash ∷ gaps) ≡ true → list_all (λ b. not (test b)) operators ≡ true →
    (inside : Bool) (d c : ℕ) → is_met inside d c ≡ true → (test d && test c) ≡ false
met-fails test gap operator inside d c met = search (rules, or_cases, cut-fails, operator-fails)

all-border : (test : ℕ → Bool) (x : ℕ) (a : List ℕ) (c : ℕ) (q : List ℕ) → list_all test (x ∷ a ++ c ∷ q) ≡ true →
    (test (last_byte x a) && test c) ≡ true
all-border test x a c q h =
    and_from (test (last_byte x a)) (test c) (all-last-byte test x a (all-front test (x ∷ a) (c ∷ q) h)) (all-last test (x ∷ a) c q h)

none-fails : (test : ℕ → Bool) (x : ℕ) (a : List ℕ) (c : ℕ) (q : List ℕ) → list_all test (x ∷ a ++ c ∷ q) ≡ true →
    (test (last_byte x a) && test c) ≡ false → ⊥
none-fails test x a c q all fails = both_ways (test (last_byte x a) && test c) fails (all-border test x a c q all)

-- numbers

-- A universal character name that goes on over the end of a text has bytes there that pass this test.
module _ (test : ℕ → Bool) (hexadecimal : (b : ℕ) → is_hexadecimal b ≡ true → test b ≡ true) (small : test 117 ≡ true)
    (capital : test 85 ≡ true) (back : test backslash ≡ true) (c : ℕ) (q : List ℕ)
  where
    hexadecimal-front : (n x : ℕ) (a : List ℕ) → test x ≡ true → (test (last_byte x a) && test c) ≡ false →
        begins_hexadecimal n (a ++ c ∷ q) ≡ true → begins_hexadecimal n a ≡ true
    hexadecimal-front zero x a is stops h = refl
    hexadecimal-front (suc n) x [] is stops h = grind (arith, hexadecimal c)
    hexadecimal-front (suc n) x (b ∷ a) is stops h = grind (arith, hexadecimal b, hexadecimal-front n b a)

    names-front : (x : ℕ) (a : List ℕ) → (test (last_byte x a) && test c) ≡ false →
        has_universal_names (x ∷ a ++ c ∷ q) ≡ true → has_universal_names (x ∷ a) ≡ true
    names-front x [] stops h = grind (arith, nat_tests)
    names-front x (y ∷ a) stops h =
        search (rules, and_parts, and_from, or_cases, or_left, or_right, nat_tests, hexadecimal-front 4 y a, hexadecimal-front 8 y a, names-front y a stops)

-- where a text ends, a sign still follows an exponent
signs-front : (x : ℕ) (a : List ℕ) (c : ℕ) (q : List ℕ) → signs_follow_exponents (x ∷ a ++ c ∷ q) ≡ true →
    (signs_follow_exponents (x ∷ a) ≡ true) × ((is_exponent (last_byte x a) || not (is_sign c)) ≡ true)
signs-front x [] c q h = grind (arith, nat_tests)
signs-front x (y ∷ a) c q h = grind (arith, nat_tests, signs-front y a c q)

begins-front : (x : ℕ) (a : List ℕ) (c : ℕ) (q : List ℕ) → is_at_operator (last_byte x a) c ≡ true →
    begins_number (x ∷ a ++ c ∷ q) ≡ true → begins_number (x ∷ a) ≡ true
begins-front x a c q at h = search rules

-- no apostrophe at the end of the first text separates, since what follows is an operator
apostrophes-front : (x : ℕ) (a : List ℕ) (c : ℕ) (q : List ℕ) → is_at_operator (last_byte x a) c ≡ true →
    apostrophes_separate (x ∷ a ++ c ∷ q) ≡ true → apostrophes_separate (x ∷ a) ≡ true
apostrophes-front x [] c q at h = grind (arith, nat_tests, listed-not is_word_byte operators refl c)
apostrophes-front x (y ∷ a) c q at h = search (rules, and_parts, and_from, apostrophes-front y a c q at)

number-front : (x : ℕ) (a : List ℕ) (c : ℕ) (q : List ℕ) → is_at_operator (last_byte x a) c ≡ true →
    is_number (x ∷ a ++ c ∷ q) ≡ true → is_number (x ∷ a) ≡ true
number-front x a c q at h =
    let n = number-parts (x ∷ a ++ c ∷ q) h in
    number-from (x ∷ a) (begins-front x a c q at n.0) (all-front is_number_byte (x ∷ a) (c ∷ q) n.1)
    (signs-front x a c q n.2).0 (apostrophes-front x a c q at n.3)
    (names-front is_identifier_byte (λ b h. grind (arith, nat_tests)) refl refl refl c q x a
    (operator-fails is_identifier_byte refl (last_byte x a) c at) n.4)

-- how a number goes on over an operator

operator-sign : (o : ℕ) → is_operator o ≡ true → is_number_byte o ≡ true → is_sign o ≡ true
operator-sign o operator number = grind (arith, nat_tests)

number-goes-on : (x : ℕ) (a : List ℕ) (c : ℕ) (q : List ℕ) → is_at_operator (last_byte x a) c ≡ true →
    is_number (x ∷ a ++ c ∷ q) ≡ true → number_goes_on (last_byte x a) c ≡ true
number-goes-on x a c q at h =
    let parts = number-parts (x ∷ a ++ c ∷ q) h in
    let signs = (signs-front x a c q parts.2).1 in
    let bytes = and_parts (is_number_byte (last_byte x a)) (is_number_byte c) (all-border is_number_byte x a c q parts.1) in
    search (rules, operator-sign, and_parts, or_cases, or_right)

-- quoted texts

-- the first text is this prefix, this quote, and bytes which may go on up to a closing quote
abbrev IsOpened : List ℕ → ℕ → List ℕ → ℕ → List ℕ → Type 0
IsOpened prefix quote a c q =
    (rest : List ℕ) × (a ≡ prefix ++ quote ∷ rest) × (ends_quoted quote (rest ++ c ∷ q) ≡ true)

-- the second text begins within the prefix of a literal, or at its quote
abbrev IsInPrefix : List ℕ → ℕ → List ℕ → Type 0
IsInPrefix a c q = (list_all is_plain_byte (a ++ c ∷ []) ≡ true) × ((is_word_byte c || ends_quoted c q) ≡ true)

literal-parts : (quote : ℕ) → is_quote quote ≡ true → (prefix a : List ℕ) (c : ℕ) (q : List ℕ) → list_all is_word_byte prefix ≡ true →
    has_prefix prefix (is_quoted quote) (a ++ c ∷ q) ≡ true → IsOpened prefix quote a c q ⊎ IsInPrefix a c q
literal-parts quote is [] [] c q word has =
    let parts = and_parts (c == quote) (ends_quoted quote q) has in
    inr (grind (arith, nat_tests), or_right (is_word_byte c) (ends_quoted c q) (rw (eqb-true c quote parts.0) parts.1))
literal-parts quote is [] (x ∷ a) c q word has = grind (arith, nat_tests)
literal-parts quote is (p ∷ ps) [] c q word has = search (rules, and_parts, and_from, or_left, eqb-true)
literal-parts quote is (p ∷ ps) (x ∷ a) c q word has =
    search (rules, and_parts, and_from, or_left, eqb-true, literal-parts quote is ps a)

opened-first : (prefix : List ℕ) (Q : ℕ) (z : List ℕ) → begins_prefix prefix ≡ true → is_quote Q ≡ true →
    (is_comment (prefix ++ Q ∷ z) ≡ false) × (is_number (prefix ++ Q ∷ z) ≡ false)
opened-first [] Q z begins quote = grind (arith, nat_tests, number-first Q z)
opened-first (p ∷ ps) Q z begins quote = grind (arith, nat_tests, number-first p (ps ++ Q ∷ z))

-- a prefix, a quote and bytes that do not end with the closing quote
opened-longer : (prefix : List ℕ) (Q : ℕ) (z : List ℕ) → list_all is_word_byte prefix ≡ true →
    begins_prefix prefix ≡ true → is_quote Q ≡ true → ends_quoted Q z ≡ false → AreSeveral (prefix ++ Q ∷ z)
    → is_element (prefix ++ Q ∷ z) ≡ false
opened-longer prefix Q z word begins quote ends several =
    false_from_ne_true (is_element (prefix ++ Q ∷ z)) λ is. element-cases (prefix ++ Q ∷ z) several is
    (both_ways _ (opened-first prefix Q z begins quote).0)
    (λ identifier. both_ways (is_identifier_byte Q) (grind (arith, nat_tests))
    (all-last is_identifier_byte prefix Q z (identifier-bytes (prefix ++ Q ∷ z) identifier)))
    (both_ways _ (opened-first prefix Q z begins quote).1)
    (λ l. elim (literal-parts l.quote l.quotes l.prefix prefix Q z l.word l.has) [
      | inl o ↦ grind (arith, nat_tests, both_ways, all-last)
      | inr inside ↦ search (rules, both_ways, or_from, nat_tests)
    ])
    (λ punctuator. let none = punctuator-is (list_all (λ b. not (is_plain_byte b))) refl
    (prefix ++ Q ∷ z) punctuator in
    search (rules, all-last, or_right, none))

-- no front of the bytes after the quote ends with the closing one
unended : (Q : ℕ) (rest : List ℕ) (c : ℕ) (q : List ℕ) → is_quote Q ≡ true → ends_quoted Q (rest ++ c ∷ q) ≡ true →
    (z w : List ℕ) → rest ≡ z ++ w → ends_quoted Q z ≡ false
unended Q rest c q quote ends z w same = false_from_ne_true (ends_quoted Q z) λ ended.
    both_ways _ (ends-once Q z w c q (grind (arith, nat_tests)) ended) (search (rules, append_assoc))

quote-unfinished : (Q : ℕ) (rest : List ℕ) (c : ℕ) (q : List ℕ) → is_quote Q ≡ true → ends_quoted Q (rest ++ c ∷ q) ≡ true →
    list_any is_unfinished (elements_from 0 (Q ∷ rest)) ≡ true
quote-unfinished Q rest c q quote ends =
    ap (list_any is_unfinished) (elements-front Q [] rest (single-element Q)
    (λ e z w same. opened-longer [] Q (e ∷ z) refl refl quote (unended Q rest c q quote ends (e ∷ z) w same)
    (refl, refl))) ∙ search (rules, or_left, or_right)

opened-unfinished : (prefix : List ℕ) (Q : ℕ) (rest : List ℕ) (c : ℕ) (q : List ℕ) → list_all is_word_byte prefix ≡ true →
    begins_prefix prefix ≡ true → is_quote Q ≡ true → ends_quoted Q (rest ++ c ∷ q) ≡ true →
    list_any is_unfinished (elements_from 0 (prefix ++ Q ∷ rest)) ≡ true
opened-unfinished [] Q rest c q word begins quote ends = quote-unfinished Q rest c q quote ends
opened-unfinished (p ∷ ps) Q rest c q word begins quote ends =
    let plain : is_plain (p ∷ ps) ≡ true = grind (arith, nat_tests) in
    ap (list_any is_unfinished) (elements-front p ps (Q ∷ rest) (plain-element (p ∷ ps) plain) none)
    ∙ search (rules, or_right, quote-unfinished Q rest c q)
  where
    none : NoLonger is_element (p ∷ ps) (Q ∷ rest)
    none e z w same = subst (λ k. is_element (p ∷ ps ++ k ∷ z) ≡ false) (ap (λ l. get_or l 0 0) same)
        (opened-longer (p ∷ ps) Q z word begins quote (unended Q rest c q quote ends z w (ap (drop 1) same))
        (two-bytes p ps Q z))

-- no element goes on over a border

pub number-token : (t : List ℕ) → is_number t ≡ true → is_token t ≡ true
unfolding is_token
number-token t h = grind (arith, nat_tests)

-- No two bytes of a punctuator meet.
abbrev none_met : Bool → List ℕ → Bool
none_met inside (b ∷ c ∷ bs) = not (is_met inside b c) && none_met true (c ∷ bs)
none_met inside _ = true

met-at : (inside : Bool) (x : ℕ) (a : List ℕ) (c : ℕ) (q : List ℕ) → none_met inside (x ∷ a ++ c ∷ q) ≡ true →
    is_met (inside || has_bytes a) (last_byte x a) c ≡ false
met-at inside x [] c q none = search (rules, and_parts, not-true)
met-at inside x (y ∷ a) c q none = search (rules, and_parts, met-at true y a c q)

border-cases : (before : List ℕ) (x : ℕ) (a : List ℕ) (c : ℕ) → let element = last_element before (elements_from 0 (x ∷ a)) in
    is_border element (last_byte x a) c ≡ true → (is_cut (has_bytes a) (last_byte x a) c ≡ true)
    ⊎ ((not (is_number element && number_goes_on (last_byte x a) c) && is_at_operator (last_byte x a) c) ≡ true)
border-cases before x a c border =
    search (rules, or_cases, and_parts, and_from, or_left, or_right)

border-meets : (before : List ℕ) (x : ℕ) (a : List ℕ) (c : ℕ) →
    is_border (last_element before (elements_from 0 (x ∷ a))) (last_byte x a) c ≡ true → is_met (has_bytes a) (last_byte x a) c ≡ true
border-meets before x a c border =
    elim (border-cases before x a c border) [ inl cut ↦ search (rules, or_left) | inr at ↦ search (rules, and_parts, or_right) ]

-- no comment goes on after a text that is none, or that is a whole one
comment-border : (x : ℕ) (a : List ℕ) (c : ℕ) (q : List ℕ) → (is_element (x ∷ a) ≡ true → is_comment (x ∷ a ++ space ∷ []) ≡ false) →
    is_met (has_bytes a) (last_byte x a) c ≡ true → is_comment (x ∷ a ++ c ∷ q) ≡ true → ⊥
comment-border x [] c q closed met comment = grind (arith, nat_tests)
comment-border x (y ∷ a) c q closed met comment = grind (arith, nat_tests, comment-open x y a c q comment, comment-element (x ∷ y ∷ a))

-- a quoted text goes on after a whole text only within its prefix
literal-border : (x : ℕ) (a : List ℕ) (c : ℕ) (q : List ℕ) → list_any is_unfinished (elements_from 0 (x ∷ a)) ≡ false →
    is_met (has_bytes a) (last_byte x a) c ≡ true → IsLiteral (x ∷ a ++ c ∷ q) → ⊥
literal-border x a c q whole met literal =
    elim (literal-parts literal.quote literal.quotes literal.prefix (x ∷ a) c q literal.word literal.has) [
      | inl o ↦ grind (arith, nat_tests, opened-unfinished literal.prefix literal.quote o.0 c q literal.word literal.begins literal.quotes o.2)
      | inr inside ↦ none-fails is_plain_byte x a c [] inside.0 (met-fails is_plain_byte refl refl (has_bytes a) (last_byte x a) c met)
    ]

number-border : (before : List ℕ) (x : ℕ) (a : List ℕ) (c : ℕ) (q : List ℕ) →
    is_border (last_element before (elements_from 0 (x ∷ a))) (last_byte x a) c ≡ true → is_number (x ∷ a ++ c ∷ q) ≡ true → ⊥
number-border before x a c q border number =
    let element = last_element before (elements_from 0 (x ∷ a)) in
    let d = last_byte x a in
    elim (border-cases before x a c border) [
      | inl cut ↦ none-fails is_number_byte x a c q (number-parts (x ∷ a ++ c ∷ q) number).1
          (cut-fails is_number_byte refl (has_bytes a) d c cut)
      | inr at ↦
          let parts = and_parts (not (is_number element && number_goes_on d c)) (is_at_operator d c) at in
          grind (arith, nat_tests, number-front, and_from, one-element, token-element, number-token, number-goes-on)
    ]

-- only a quoted text goes on over a border
pub border-literal : (before : List ℕ) (x : ℕ) (a : List ℕ) (c : ℕ) (q : List ℕ) →
    (is_element (x ∷ a) ≡ true → is_comment (x ∷ a ++ space ∷ []) ≡ false) →
    is_border (last_element before (elements_from 0 (x ∷ a))) (last_byte x a) c ≡ true →
    is_element (x ∷ a ++ c ∷ q) ≡ true → IsLiteral (x ∷ a ++ c ∷ q)
border-literal before x a c q closed border is =
    let t = x ∷ a ++ c ∷ q in
    let met = border-meets before x a c border in
    element-cases t (two-bytes x a c q) is (λ comment. absurd (comment-border x a c q closed met comment))
    (λ identifier. absurd (none-fails is_identifier_byte x a c q (identifier-bytes t identifier)
    (met-fails is_identifier_byte refl refl (has_bytes a) (last_byte x a) c met)))
    (λ number. absurd (number-border before x a c q border number)) (λ literal. literal)
    (λ punctuator. absurd (both_ways (is_met (has_bytes a) (last_byte x a) c)
    (met-at false x a c q (punctuator-is (none_met false) refl t punctuator)) met))

border-longer : (before : List ℕ) (x : ℕ) (a : List ℕ) (c : ℕ) (q : List ℕ) →
    list_any is_unfinished (elements_from 0 (x ∷ a)) ≡ false →
    is_border (last_element before (elements_from 0 (x ∷ a))) (last_byte x a) c ≡ true → is_element (x ∷ a ++ c ∷ q) ≡ false
border-longer before x a c q whole border =
    false_from_ne_true (is_element (x ∷ a ++ c ∷ q)) λ is. literal-border x a c q whole (border-meets before x a c border)
    (border-literal before x a c q closed border is)
  where
    closed : is_element (x ∷ a) ≡ true → is_comment (x ∷ a ++ space ∷ []) ≡ false
    closed one =
        let last = ap (list_any is_unfinished) (sym (one-element x a one)) ∙ whole in search (rules, or_parts)

-- The elements of both texts. `Borders n a`: no element is unfinished, and a border is at the end.

abbrev IsAtBorder : ℕ → List ℕ → ℕ → List ℕ → Type 0
IsAtBorder c before n [] = Unit {0}
IsAtBorder c before n (x ∷ a) = is_border (last_element before (elements_from n (x ∷ a))) (last_byte x a) c ≡ true

record Borders (c n : ℕ) (a : List ℕ) : Type 0 where
  before : List ℕ
  whole : list_any is_unfinished (elements_from n a) ≡ false
  border : IsAtBorder c before n a

border-next : (c x : ℕ) (a : List ℕ) → Borders c 0 (x ∷ a) → Borders c (longest is_element (x ∷ a) - 1) a
border-next c x a b = record {
  before = take (longest is_element (x ∷ a)) (x ∷ a);
  whole = search (rules, or_parts);
  border = search rules;
}

pub border-elements : (a b : List ℕ) → list_any is_unfinished (elements_from 0 a) ≡ false → have_border a b ≡ true →
    elements_from 0 (a ++ b) ≡ elements_from 0 a ++ elements_from 0 b
border-elements [] b whole border = refl
border-elements (x ∷ a) [] whole border = search rules
border-elements (x ∷ a) (c ∷ r) whole border =
    elements-append c r (Borders c) (λ n x a b. search rules) (border-next c)
    (λ x a b q rest same. border-longer b.before x a c q b.whole b.border)
    0 (x ∷ a) (omega arith) (record { before = []; whole = whole; border = border })

pub apart_tokens : (a b : List ℕ) → are_apart a b ≡ true → tokens (a ++ b) ≡ tokens a ++ tokens b
apart_tokens a b apart = search (rules, and_parts, spliced-both, border-elements, not-true, filter-append)

-- texts in a row

-- what is written after a text with bytes changes nothing before that text

have_border-more : (a b more : List ℕ) → has_bytes b ≡ true → have_border a b ≡ true → have_border a (b ++ more) ≡ true
have_border-more a b more some border = search rules

pub row-tokens : (a : List ℕ) (rest : List (List ℕ)) → are_all_apart (a ∷ rest) ≡ true →
    (spliced (a ++ concat rest) ≡ spliced a ++ spliced (concat rest))
    × (tokens (a ++ concat rest) ≡ tokens a ++ flat_map tokens rest)
row-tokens a [] apart = search rules
row-tokens a (b ∷ rest) apart = search (rules, and_parts, have_border-more, spliced-both, apart_tokens, row-tokens b rest)

pub texts_apart : (texts : List (List ℕ)) → are_all_apart texts ≡ true → tokens (concat texts) ≡ flat_map tokens texts
texts_apart [] apart = refl
texts_apart (a ∷ rest) apart = (row-tokens a rest apart).1

pub ruleset all_apart = (apart_tokens, texts_apart)
