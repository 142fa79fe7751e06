-- The tokens of a `#line` with digits and a name in quotes.
use Rattle.std.proofs.Common.{rules}
use Rattle.std.proofs.Common.{◌≡◌, ℕ, true, false, List, [], ◌∷◌, ◌++◌, map, length, codes, arith}
use Rattle.std.proofs.Common.{refl, ap, ◌∙◌}
use Rattle.std.specs.List.{list_all}
use Rattle.std.proofs.lemmas.Bool.{and_parts, and_from, or_right, false≢true}
use Rattle.std.proofs.lemmas.Bool.Decides.{nat_tests}
use Rattle.c_tokens.specs.Bytes.{space, is_digit, is_word_byte}
use Rattle.c_tokens.specs.Grammar.{is_token, is_element, is_punctuator, is_string, is_number}
use Rattle.c_tokens.specs.Grammar.{apostrophes_separate}
use Rattle.c_tokens.specs.Reading.{spliced, tokens}
use Rattle.c_tokens.specs.Borders.{is_unfinished, is_whole, has_bytes}
use Rattle.c_lines.specs.Counting.{Place, PlacedElement, tokens_at, begins_directive, directive}
use Rattle.c_tokens.proofs.GrammarLemmas.{all-weaker}
use Rattle.c_tokens.proofs.NumberLemmas.{separated-number, word-separated, separates-word}
use Rattle.c_tokens.proofs.ElementLemmas.{one-element, plain-token, token-element}
use Rattle.c_tokens.proofs.BorderLemmas.{number-token, apart_tokens}
use Rattle.c_lines.proofs.CountingLemmas.{token-texts}
use Rattle.c_lines.proofs.JoinedLemmas.{IsInLine, spliced-other, white-next, white-before}

-- texts without line feeds

pub spliced-line : (t : List ℕ) → IsInLine t → spliced t ≡ t
spliced-line (b ∷ c ∷ t) line = grind (arith, nat_tests, spliced-line (c ∷ t))
spliced-line t line = refl

-- a text that is one token

one-token : (b : ℕ) (t : List ℕ) → IsInLine (b ∷ t) → is_token (b ∷ t) ≡ true → tokens (b ∷ t) ≡ (b ∷ t) ∷ []
one-token b t line is = search (rules, spliced-line, one-element, token-element)

pub digits-line : (t : List ℕ) → list_all is_digit t ≡ true → IsInLine t
digits-line [] all = refl
digits-line (b ∷ t) all = grind (arith, nat_tests, digits-line t)

words-separate : (t : List ℕ) → list_all is_word_byte t ≡ true → apostrophes_separate t ≡ true
words-separate [] all = refl
words-separate (b ∷ t) all = search (rules, and_parts, separates-word, words-separate t)

digits-number : (b : ℕ) (t : List ℕ) → list_all is_digit (b ∷ t) ≡ true → is_number (b ∷ t) ≡ true
digits-number b t all =
    let words = all-weaker is_digit is_word_byte (λ b digit. grind (arith, nat_tests)) (b ∷ t) all in
    separated-number b t (and_parts (is_digit b) (list_all is_digit t) all).0 (word-separated (b ∷ t) words) (words-separate (b ∷ t) words)

pub digits-whole : (t : List ℕ) → list_all is_digit t ≡ true → is_whole t ≡ true
digits-whole [] all = refl
digits-whole (b ∷ t) all =
    let unfinished : is_unfinished (b ∷ t) ≡ false =
    grind (arith, nat_tests, and_parts (is_digit b) (list_all is_digit t) all) in
    let one = one-element b t (token-element (b ∷ t) (number-token (b ∷ t) (digits-number b t all))) in
    search (rules, spliced-line, digits-line)

string-token : (t : List ℕ) → is_string t ≡ true → IsInLine t → tokens t ≡ t ∷ []
string-token [] is line = absurd (false≢true is)
string-token (b ∷ t) is line = one-token b t line (plain-token (b ∷ t) (search (rules, or_right)))

-- texts in a row

space-first : (rest : List ℕ) → tokens (space ∷ rest) ≡ tokens rest
unfolding is_element is_token is_punctuator
space-first rest = apart_tokens (space ∷ []) rest (search (rules, and_from, white-before))

space-after : (a rest : List ℕ) → is_whole a ≡ true → tokens (a ++ space ∷ rest) ≡ tokens a ++ tokens rest
space-after a rest whole =
    grind (arith, nat_tests, apart_tokens, and_from, spliced-other, white-next, space-first)

word-tokens : tokens (codes "#line") ≡ codes "#" ∷ codes "line" ∷ []
unfolding is_element is_token is_punctuator
word-tokens = refl

pub word-whole : is_whole (codes "#line") ≡ true
unfolding is_element is_token is_punctuator
word-whole = refl

line-tokens : (digits literal : List ℕ) → list_all is_digit digits ≡ true → has_bytes digits ≡ true → is_string literal ≡ true →
    IsInLine literal → tokens (codes "#line " ++ (digits ++ space ∷ literal)) ≡ codes "#" ∷ codes "line" ∷ digits ∷ literal ∷ []
line-tokens [] literal all some is line = absurd (false≢true some)
line-tokens (d ∷ digits) literal all some is line =
    space-after (codes "#line") (d ∷ digits ++ space ∷ literal) word-whole
    ∙ ap (λ ts. ts ++ tokens (d ∷ digits ++ space ∷ literal)) word-tokens
    ∙ ap (λ ts. codes "#" ∷ codes "line" ∷ ts) (search (rules, space-after, digits-whole, string-token, one-token, digits-line, number-token, digits-number))

-- the same of tokens with places

directive-texts : (es : List PlacedElement) (ts : List (List ℕ)) → map (λ e. e.text) es ≡ codes "#" ∷ ts →
    (begins_directive es ≡ true) × (directive es ≡ ts)
directive-texts [] ts same = absurd (omega (arith, ap length same))
directive-texts (e ∷ es) ts same = grind (arith, nat_tests)

-- The tokens of a `#line` with these digits and this name.
pub line-directive : (p : Place) (digits literal : List ℕ) → list_all is_digit digits ≡ true → has_bytes digits ≡ true →
    is_string literal ≡ true → IsInLine literal →
    (begins_directive (tokens_at p (codes "#line " ++ (digits ++ space ∷ literal))) ≡ true)
    × (directive (tokens_at p (codes "#line " ++ (digits ++ space ∷ literal))) ≡ codes "line" ∷ digits ∷ literal ∷ [])
line-directive p digits literal all some is line =
    directive-texts (tokens_at p (codes "#line " ++ (digits ++ space ∷ literal))) (codes "line" ∷ digits ∷ literal ∷ [])
    (token-texts p (codes "#line " ++ (digits ++ space ∷ literal)) ∙ line-tokens digits literal all some is line)
