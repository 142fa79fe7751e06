-- The tokens of two texts with white space between them, or with a line end that is taken out.
use Rattle.std.proofs.Common.{rules}
use Rattle.std.proofs.Common.{arith}
use Rattle.std.proofs.Common.{◌⊎◌}
use Rattle.std.proofs.Common.{◌≡◌, ℕ, Bool, true, false, List, [], ◌∷◌, ◌++◌, refl, ap, subst}
use Rattle.std.proofs.Common.{inl, inr, ◌∙◌, append-nil, append_assoc}
use Rattle.std.specs.Prelude.{◌==◌, not}
use Rattle.std.specs.List.{list_any}
use Rattle.std.proofs.lemmas.Bool.{or_right}
use Rattle.std.proofs.lemmas.Bool.{false≢true, not-true}
use Rattle.std.proofs.lemmas.List.Elements.{filter-append}
use Rattle.c_tokens.specs.Bytes.{line_feed, space, slash, backslash}
use Rattle.c_tokens.specs.Grammar.{is_token, is_element, is_punctuator}
use Rattle.c_tokens.specs.Reading.{spliced, tokens, elements_from}
use Rattle.c_tokens.specs.Touching.{TextKind, kinds_may_touch, is_separator, is_operator}
use Rattle.c_tokens.specs.Borders.{is_whole, is_unfinished}
use Rattle.c_tokens.specs.Borders.{have_border, keep_lines}
use Rattle.c_tokens.specs.Borders.{is_plain_byte}
use Rattle.c_tokens.proofs.BorderLemmas.{border-elements}
use Rattle.c_tokens.proofs.ElementLemmas.{spliced-both, keep-other}
use Rattle.c_lines.specs.JoinedLines.{LinesAreWhole}
use Rattle.c_lines.proofs.LineLemmas.{keep-feed}
use Rattle.c_lines.proofs.JoinedLemmas.{IsOneLine, lines-apart, lines-feed, lines-whole, taken-append, spliced-other, white-next, white-before, keep-is, back-append}
use Rattle.tangle_c_tokens.specs.Reading.{IsReadAsTexts}
use Rattle.tangle_c_tokens.specs.Edges.{first_byte_passes, last_byte_passes, begins_as, ends_as, last_number_goes_on}
use Rattle.std.proofs.lemmas.Bool.Decides.{nat_tests}

-- the bytes are read as these texts, and then as the rest is
abbrev pub Follows : List (List ℕ) → List ℕ → List ℕ → Type 0
Follows texts rest bytes = (ts : List (List ℕ)) → IsReadAsTexts ts rest → IsReadAsTexts (texts ++ ts) bytes

pub no-text : IsReadAsTexts [] []
no-text = record { read = refl; lines = (refl, tt) }

tokens-apart : (a b : List ℕ) → is_whole a ≡ true → keep_lines a b ≡ true
    → have_border (spliced a) (spliced b) ≡ true → tokens (a ++ b) ≡ tokens a ++ tokens b
tokens-apart a b whole kept border = search (rules, not-true, spliced-both, border-elements, filter-append)

pub apart-from : (a b : List ℕ) → is_whole a ≡ true → IsOneLine a → keep_lines a b ≡ true
    → have_border (spliced a) (spliced b) ≡ true → Follows (a ∷ []) b (a ++ b)
apart-from a b whole one kept border ts read = search (rules, tokens-apart, lines-apart, read)

-- borders

-- a slash after another byte than a slash
pub slash-border : (a b : List ℕ) → last_byte_passes (λ d. d == slash) a ≡ false → have_border a (slash ∷ b) ≡ true
slash-border a b ends = search rules

-- A border is where two texts may touch by their kinds, unless a number is before an operator or
-- ends in one.

separator-before : (a b : List ℕ) → last_byte_passes is_separator a ≡ true → have_border a b ≡ true
separator-before a b ends = search (rules, or_right)

separator-next : (a b : List ℕ) → first_byte_passes is_separator b ≡ true → have_border a b ≡ true
separator-next a b begins = search (rules, or_right)

operator-before : (a b : List ℕ) → last_number_goes_on a b ≡ false → last_byte_passes is_operator a ≡ true
    → first_byte_passes is_plain_byte b ≡ true → have_border a b ≡ true
operator-before a b none ends begins = search (rules, or_right)

operator-next : (a b : List ℕ) → last_number_goes_on a b ≡ false → last_byte_passes is_plain_byte a ≡ true
    → first_byte_passes is_operator b ≡ true → have_border a b ≡ true
operator-next a b none ends begins = search (rules, or_right)

-- the bytes at the edges of a text without its taken-out line ends

ends-after : (test : ℕ → Bool) (b : ℕ) (bs : List ℕ) → last_byte_passes test bs ≡ true
    → last_byte_passes test (b ∷ bs) ≡ true
ends-after test b bs ends = search rules

pub ends-append : (test : ℕ → Bool) (a t : List ℕ) → last_byte_passes test t ≡ true
    → last_byte_passes test (a ++ t) ≡ true
ends-append test [] t ends = ends
ends-append test (b ∷ a) t ends = ends-after test b (a ++ t) (ends-append test a t ends)

ends-spliced : (test : ℕ → Bool) → test line_feed ≡ false → (t : List ℕ) → last_byte_passes test t ≡ true
    → last_byte_passes test (spliced t) ≡ true
ends-spliced test none [] ends = ends
ends-spliced test none (b ∷ []) ends = ends
ends-spliced test none (b ∷ c ∷ []) ends = grind (arith, nat_tests)
ends-spliced test none (b ∷ c ∷ d ∷ bs) ends = grind (arith, nat_tests, ends-spliced test none (d ∷ bs), ends-spliced test none (c ∷ d ∷ bs), ends-after test b)

-- what a number goes on with does not depend on what is after the second text
same-next : (test : ℕ → Bool) → test backslash ≡ false → (a t more : List ℕ)
    → first_byte_passes test t ≡ true → last_number_goes_on a (spliced (t ++ more)) ≡ last_number_goes_on a t
same-next test none a [] more begins = absurd (false≢true begins)
same-next test none a (b ∷ t) more begins = grind (arith, nat_tests)

pub ends-as : (k : TextKind) (a t : List ℕ) → ends_as k t ≡ true → ends_as k (spliced (a ++ t)) ≡ true
ends-as k a t ends = search (rules, ends-spliced, ends-append)

pub kinds-border : (k g : TextKind) (a t more : List ℕ) → kinds_may_touch k g ≡ true
    → ends_as k a ≡ true → begins_as g t ≡ true → last_number_goes_on a t ≡ false
    → have_border a (spliced (t ++ more)) ≡ true
kinds-border k g a t more may ends begins none =
    let next : begins_as g (spliced (t ++ more)) ≡ true = search rules in
    search (rules, false≢true, separator-before, separator-next, operator-before, operator-next, same-next)

-- white space, and texts before it

pub space-front : (rest : List ℕ) → Follows [] rest (space ∷ rest)
unfolding is_element is_token is_punctuator
space-front rest ts read =
    let apart = apart-from (space ∷ []) rest refl refl (keep-is (space ∷ []) rest)
    (white-before space (spliced rest) refl) ts read in
    record { read = apart.read; lines = apart.lines }

pub feed-front : (rest : List ℕ) → Follows [] rest (line_feed ∷ rest)
unfolding is_element is_token is_punctuator
feed-front rest ts read = search (rules, tokens-apart (line_feed ∷ []), keep-is, white-before, read)

pub space-apart : (a rest : List ℕ) → is_whole a ≡ true → IsOneLine a → Follows (a ∷ []) (space ∷ rest)
    (a ++ space ∷ rest)
space-apart a rest whole one =
    apart-from a (space ∷ rest) whole one (keep-other a space rest refl) (search (rules, spliced-other, white-next))

pub space-between : (a rest : List ℕ) → is_whole a ≡ true → IsOneLine a → Follows (a ∷ []) rest (a ++ space ∷ rest)
space-between a rest whole one ts read = space-apart a rest whole one ts (space-front rest ts read)

-- the last byte takes out no line feed after it
abbrev pub is_kept : List ℕ → Bool
is_kept text = keep_lines text (line_feed ∷ [])

-- a line feed after a text that may have more than one line

pub feed-apart : (a rest : List ℕ) → LinesAreWhole a → is_kept a ≡ true → Follows (a ∷ []) (line_feed ∷ rest)
    (a ++ line_feed ∷ rest)
feed-apart a rest lines kept ts read =
    search (rules, tokens-apart, lines-whole, keep-feed, spliced-other, white-next, read, lines-feed)

pub feed-between : (a rest : List ℕ) → LinesAreWhole a → is_kept a ≡ true → Follows (a ∷ []) rest
    (a ++ line_feed ∷ rest)
feed-between a rest lines kept ts read = feed-apart a rest lines kept ts (feed-front rest ts read)

-- a line end that is taken out

keep-taken : (a rest : List ℕ) → keep_lines (a ++ backslash ∷ line_feed ∷ []) rest ≡ true
keep-taken a rest = grind (arith, nat_tests, keep-is, back-append false a (backslash ∷ line_feed ∷ []))

pub taken-between : (a rest : List ℕ) → is_whole a ≡ true → IsOneLine a → have_border (spliced a)
    (spliced rest) ≡ true → Follows (a ∷ []) rest (a ++ backslash ∷ line_feed ∷ rest)
taken-between a rest whole one border ts read =
    let all = a ++ backslash ∷ line_feed ∷ [] in
    let same : spliced all ≡ spliced a = (search (rules, spliced-both, keep-other)) ∙ append-nil (spliced a) in
    let apart = apart-from all rest (ap (λ t. not (list_any is_unfinished (elements_from 0 t))) same ∙ whole)
    (grind (arith, nat_tests, taken-append false a (backslash ∷ line_feed ∷ [])))
    (keep-taken a rest) (ap (λ t. have_border t (spliced rest)) same ∙ border) ts read in
    subst (IsReadAsTexts (a ∷ ts)) (append_assoc a (backslash ∷ line_feed ∷ []) rest)
    (record { read = apart.read ∙ search (rules, same); lines = apart.lines })

pub taken-front : (rest : List ℕ) → Follows [] rest (backslash ∷ line_feed ∷ rest)
taken-front rest ts read =
    let taken = taken-between [] rest refl refl refl ts read in record { read = taken.read; lines = taken.lines }

-- Texts that a line feed may follow: whole ones, of which it takes out no backslash at their end. A
-- line mark is such a text with its line feed, or empty.

pub record IsWholeLine (text : List ℕ) : Type 0 where
  pub lines : LinesAreWhole text
  pub kept : is_kept text ≡ true

abbrev pub IsMarkText : List ℕ → Type 0
IsMarkText text = (text ≡ []) ⊎ ((line : List ℕ) × (text ≡ line ++ line_feed ∷ []) × IsWholeLine line)

pub mark-between : (m rest : List ℕ) → IsMarkText m → Follows (m ∷ []) rest (m ++ rest)
mark-between m rest (inl none) = rw none (λ ts read. record { read = read.read; lines = read.lines })
mark-between m rest (inr some) = λ ts read.
    let first = feed-between some.0 rest some.2.lines some.2.kept ts read in
    let alone = feed-between some.0 [] some.2.lines some.2.kept [] no-text in
    rw (some.1, append_assoc some.0 (line_feed ∷ []) rest)
    (record { read = search (rules, first.read, alone.read); lines = first.lines })
