-- The comments that open and close a piece have no tokens, and are apart from what is before and
-- after them.
use Rattle.tangle_c_tokens.specs.Reading.{IsReadAsTexts}
use Rattle.std.proofs.Common.{subst}
use Rattle.c_tokens.proofs.GrammarLemmas.{all-weaker}
use Rattle.std.proofs.Common.{rules}
use Rattle.tangle_c_tokens.proofs.DecimalLemmas.{decimal-digits}
use Rattle.c_tokens.specs.Bytes.{is_digit}
use Rattle.std.proofs.Common.{◌≡◌, ℕ, Bool, true, false, List, []}
use Rattle.std.proofs.Common.{◌∷◌, ◌++◌, refl, ◌∙◌, append_assoc, codes, arith}
use Rattle.std.specs.Prelude.{◌&&◌, not, ◌==◌, filter, decimal}
use Rattle.std.specs.List.{list_all}
use Rattle.std.proofs.lemmas.Bool.{or_right}
use Rattle.std.proofs.lemmas.List.Folds.{list_all-append}
use Rattle.c_tokens.specs.Bytes.{line_feed, space, slash, asterisk, backslash}
use Rattle.c_tokens.specs.Grammar.{is_token, is_punctuator, is_comment, ends_once}
use Rattle.c_tokens.specs.Reading.{spliced, elements, elements_from}
use Rattle.c_tokens.specs.Borders.{last_element}
use Rattle.c_tokens.specs.Borders.{have_border}
use Rattle.c_tokens.proofs.ElementLemmas.{one-element, comment-element, last-append}
use Rattle.c_lines.proofs.JoinedLemmas.{feeds_taken}
use Rattle.tangle_c_tokens.proofs.TextLemmas.{Follows, apart-from}
use Rattle.tangle_expansion.specs.Numbers.{opening_bytes, closing_bytes}
use Rattle.std.proofs.lemmas.Bool.Decides.{nat_tests}

-- the bytes in the comment
abbrev is_inside : ℕ → Bool
is_inside b = not (b == asterisk) && not (b == backslash) && not (b == line_feed)

abbrev comment : List ℕ → List ℕ
comment inside = slash ∷ asterisk ∷ inside ++ asterisk ∷ slash ∷ []

-- numbers

decimal-inside : (n : ℕ) → list_all is_inside (decimal n) ≡ true
decimal-inside n = all-weaker is_digit is_inside (λ b digit. grind (arith, nat_tests)) (decimal n) (decimal-digits n)

-- the comment as an element

inside-ends : (inside more : List ℕ) → list_all is_inside inside ≡ true →
    ends_once (inside ++ asterisk ∷ slash ∷ more) ≡ ends_once (asterisk ∷ slash ∷ more)
inside-ends [] more all = refl
inside-ends (b ∷ []) more all = grind (arith, nat_tests)
inside-ends (b ∷ c ∷ []) more all = grind (arith, nat_tests, inside-ends (c ∷ []) more)
inside-ends (b ∷ c ∷ d ∷ inside) more all = grind (arith, nat_tests, inside-ends (c ∷ d ∷ inside) more)

comment-ended : (inside : List ℕ) → list_all is_inside inside ≡ true
    → is_comment (comment inside ++ space ∷ []) ≡ false
comment-ended inside all = search (rules, append_assoc, inside-ends)

spliced-inside : (inside more : List ℕ) → list_all is_inside inside ≡ true
    → spliced (inside ++ more) ≡ inside ++ spliced more
spliced-inside [] more all = refl
spliced-inside (b ∷ inside) more all = grind (arith, nat_tests, spliced-inside inside more)

spliced-comment : (inside : List ℕ) → list_all is_inside inside ≡ true → spliced (comment inside) ≡ comment inside
spliced-comment inside all = search (rules, spliced-inside)

one-comment : (inside : List ℕ) → list_all is_inside inside ≡ true → elements (comment inside) ≡ comment inside ∷ []
one-comment inside all = search (rules, spliced-comment, one-element, comment-element, inside-ends)

no-token : (inside : List ℕ) → filter is_token (comment inside ∷ []) ≡ []
unfolding is_token is_punctuator
no-token inside = refl

comment-border : (inside b : List ℕ) → list_all is_inside inside ≡ true → have_border (comment inside) b ≡ true
comment-border inside [] all = refl
comment-border inside (c ∷ b) all =
    let t = comment inside in
    let is : is_comment (last_element [] (elements_from 0 t)) ≡ true =
    grind (arith, nat_tests, one-element slash, comment-element t, inside-ends) in
    search (rules, or_right, last-append)

-- bytes after a comment, and before one

comment-one : (after : Bool) (inside : List ℕ) → list_all is_inside inside ≡ true
    → feeds_taken after (inside ++ asterisk ∷ slash ∷ []) ≡ true
comment-one after [] all = refl
comment-one after (b ∷ inside) all = grind (arith, nat_tests, comment-one (b == backslash) inside)

comment-front : (inside rest : List ℕ) → list_all is_inside inside ≡ true → Follows [] rest (comment inside ++ rest)
comment-front inside rest all ts read =
    let apart = apart-from (comment inside) rest (grind (arith, nat_tests, one-comment, comment-ended))
    (comment-one false inside all) (search (rules, last-append))
    (search (rules, spliced-comment, comment-border)) ts read in
    record { read = apart.read ∙ search (rules, one-comment, no-token); lines = apart.lines }

-- the comments around a piece

pub after-opening : (n : ℕ) (rest : List ℕ) → Follows [] rest (opening_bytes n ++ rest)
after-opening n rest ts read =
    subst (IsReadAsTexts ts) (search (rules, append_assoc)) (comment-front (decimal n ++ codes ":") rest
    (grind (arith, list_all-append is_inside (decimal n) (codes ":"), decimal-inside n)) ts read)

pub after-closing : (n : ℕ) (rest : List ℕ) → Follows [] rest (closing_bytes n ++ rest)
after-closing n rest = comment-front (58 ∷ decimal n) rest (decimal-inside n)
