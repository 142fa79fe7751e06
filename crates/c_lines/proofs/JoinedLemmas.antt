-- The lines of two texts, one written after the other.
use Rattle.std.proofs.Common.{rules}
use Rattle.std.proofs.Common.{arith}
use Rattle.std.proofs.Common.{◌≡◌, ℕ, Bool, true, false, List, [], ◌∷◌, ◌++◌, refl, ap, sym, ◌∙◌, subst}
use Rattle.std.proofs.Common.{append-nil, append_assoc}
use Rattle.std.specs.Prelude.{◌==◌, ◌&&◌, ◌||◌, not, if◌then◌else◌}
use Rattle.std.specs.List.{AllByRecursion, list_any}
use Rattle.std.proofs.lemmas.Bool.{not-true, false≢true}
use Rattle.std.proofs.lemmas.List.Folds.{list_any-append}
use Rattle.std.proofs.lemmas.List.Elements.{All-append, All-from_recursion, recursion_from_All}
use Rattle.c_tokens.specs.Bytes.{line_feed, backslash, is_white}
use Rattle.c_tokens.specs.Grammar.{is_token, is_element, is_punctuator}
use Rattle.c_tokens.specs.Reading.{spliced}
use Rattle.c_tokens.specs.Borders.{is_whole, have_border, keep_lines}
use Rattle.c_tokens.specs.Borders.{last_byte}
use Rattle.c_lines.specs.JoinedLines.{joined_lines, LinesAreWhole}
use Rattle.c_tokens.proofs.BorderLemmas.{border-elements}
use Rattle.c_tokens.proofs.ElementLemmas.{spliced-both}
use Rattle.std.proofs.lemmas.Bool.Decides.{nat_tests}

-- backslashes before line feeds. `after` says whether a backslash is directly before these bytes.

-- the bytes end in a backslash
abbrev pub ends_back : Bool → List ℕ → Bool
ends_back after [] = after
ends_back after (b ∷ bs) = ends_back (b == backslash) bs

-- each line feed is directly after a backslash
abbrev pub feeds_taken : Bool → List ℕ → Bool
feeds_taken after [] = true
feeds_taken after (b ∷ bs) = (not (b == line_feed) || after) && feeds_taken (b == backslash) bs

-- a text of one line
abbrev pub IsOneLine : List ℕ → Type 0
IsOneLine t = feeds_taken false t ≡ true

abbrev pub begins_feed : List ℕ → Bool
begins_feed [] = false
begins_feed (b ∷ bs) = b == line_feed

pub back-append : (after : Bool) (a b : List ℕ) → ends_back after (a ++ b) ≡ ends_back (ends_back after a) b
back-append after [] b = refl
back-append after (x ∷ a) b = back-append (x == backslash) a b

pub taken-append : (after : Bool) (a b : List ℕ)
    → feeds_taken after (a ++ b) ≡ (feeds_taken after a && feeds_taken (ends_back after a) b)
taken-append after [] b = refl
taken-append after (x ∷ a) b = grind (arith, nat_tests, taken-append (x == backslash) a b)

last-back : (x : ℕ) (a : List ℕ) → (last_byte x a == backslash) ≡ ends_back (x == backslash) a
last-back x [] = refl
last-back x (y ∷ a) = last-back y a

pub keep-is : (a b : List ℕ) → keep_lines a b ≡ not (ends_back false a && begins_feed b)
keep-is a b = search (rules, last-back)

-- texts of one line

-- a backslash before a text of one line changes nothing
pub taken-more : (after : Bool) (t : List ℕ) → feeds_taken false t ≡ true → feeds_taken after t ≡ true
taken-more after [] taken = refl
taken-more after (b ∷ bs) taken = grind (arith, nat_tests)

pub back-more : (after : Bool) (t : List ℕ) → ends_back false t ≡ true → ends_back after t ≡ true
back-more after [] back = absurd (false≢true back)
back-more after (b ∷ bs) back = back

-- a text without a line feed
abbrev pub IsInLine : List ℕ → Type 0
IsInLine t = list_any (λ b. b == line_feed) t ≡ false

pub in-line-taken : (after : Bool) (t : List ℕ) → IsInLine t → feeds_taken after t ≡ true
in-line-taken after [] line = refl
in-line-taken after (b ∷ t) line = grind (arith, nat_tests, in-line-taken (b == backslash) t)

-- a text that has no line feed without those that are directly after a backslash
pub spliced-taken : (t : List ℕ) → IsInLine (spliced t) → IsOneLine t
spliced-taken [] none = refl
spliced-taken (b ∷ []) none = grind (arith, nat_tests)
spliced-taken (b ∷ c ∷ t) none = grind (arith, nat_tests, spliced-taken t, spliced-taken (c ∷ t), taken-more (b == backslash) (c ∷ t), taken-more (c == backslash) t)

-- each line feed of a text of one line is taken out
pub taken-spliced : (t : List ℕ) → IsOneLine t → IsInLine (spliced t)
taken-spliced [] one = refl
taken-spliced (b ∷ []) one = grind (arith, nat_tests)
taken-spliced (b ∷ c ∷ t) one = grind (arith, nat_tests, taken-spliced t, taken-spliced (c ∷ t))

-- a text of one line, and a byte that does not end the line
pub one-more : (t : List ℕ) (b : ℕ) → IsOneLine t → (b == line_feed && keep_lines t (line_feed ∷ [])) ≡ false
    → IsOneLine (t ++ b ∷ [])
one-more t b one more = grind (arith, nat_tests, taken-append false t (b ∷ []), keep-is t (line_feed ∷ []))

-- the first line of these bytes and what is after it, which begins with its line feed

abbrev cut_line : Bool → List ℕ → List ℕ × List ℕ
cut_line after [] = ([], [])
cut_line after (b ∷ bs) =
    let rest = cut_line (b == backslash) bs in if b == line_feed && not after then ([], b ∷ bs) else (b ∷ rest.0, rest.1)

abbrev lines_after : List ℕ → List (List ℕ)
lines_after [] = []
lines_after (b ∷ bs) = joined_lines [] bs

pub joined-is : (line bs : List ℕ) → let cut = cut_line (ends_back false line) bs in joined_lines line bs ≡ (line ++ cut.0) ∷ lines_after cut.1
joined-is line [] = ap (λ l. l ∷ []) (sym (append-nil line))
joined-is line (b ∷ bs) =
    grind (arith, nat_tests, keep-is line (line_feed ∷ []), back-append false line (b ∷ []), joined-is (line ++ b ∷ []) bs, append_assoc line (b ∷ []), append-nil line)

cut-taken : (after : Bool) (a b : List ℕ) → feeds_taken after a ≡ true →
    let cut = cut_line (ends_back after a) b in cut_line after (a ++ b) ≡ (a ++ cut.0, cut.1)
cut-taken after [] b taken = refl
cut-taken after (x ∷ a) b taken = grind (arith, nat_tests, cut-taken (x == backslash) a b)

-- a text of one line, and bytes after it
joined-both : (a b : List ℕ) → IsOneLine a → keep_lines a b ≡ true →
    let cut = cut_line false b in joined_lines [] (a ++ b) ≡ (a ++ cut.0) ∷ lines_after cut.1
joined-both a b one kept = search (rules, not-true, keep-is, joined-is, cut-taken)

cut-all : (after : Bool) (b : List ℕ) → let cut = cut_line after b in b ≡ cut.0 ++ cut.1
cut-all after [] = refl
cut-all after (c ∷ r) = grind (arith, nat_tests, cut-all (c == backslash) r)

cut-kept : (after : Bool) (b : List ℕ) → let cut = cut_line after b in (ends_back after cut.0 && begins_feed cut.1) ≡ false
cut-kept after [] = grind (arith, nat_tests)
cut-kept after (c ∷ r) = grind (arith, nat_tests, cut-kept (c == backslash) r)

cut-spliced : (b : List ℕ) → let cut = cut_line false b in spliced b ≡ spliced cut.0 ++ spliced cut.1
cut-spliced b = grind (arith, cut-all false b, spliced-both, keep-is, cut-kept false b)

border-front : (a b c : List ℕ) → have_border a (b ++ c) ≡ true → have_border a b ≡ true
border-front a b c border = search rules

-- whole texts

pub whole-apart : (a b : List ℕ) → is_whole a ≡ true → keep_lines a b ≡ true
    → have_border (spliced a) (spliced b) ≡ true → is_whole (a ++ b) ≡ is_whole b
whole-apart a b whole kept border = search (rules, not-true, spliced-both, border-elements, list_any-append)

pub lines-apart : (a b : List ℕ) → is_whole a ≡ true → IsOneLine a → keep_lines a b ≡ true
    → have_border (spliced a) (spliced b) ≡ true → LinesAreWhole b → LinesAreWhole (a ++ b)
lines-apart a b whole one kept border lines =
    let cut = cut_line false b in
    let more = subst (AllByRecursion (λ line. is_whole line ≡ true)) (joined-is [] b) lines in
    subst (AllByRecursion (λ line. is_whole line ≡ true)) (sym (joined-both a b one kept)) (
      whole-apart a cut.0 whole (search rules)
          (border-front (spliced a) (spliced cut.0) (spliced cut.1)
          (subst (λ t. have_border (spliced a) t ≡ true) (cut-spliced b) border)) ∙ more.0,
      more.1,
    )

-- a text of one line alone
border-nothing : (a : List ℕ) → have_border a [] ≡ true
border-nothing a = search rules

pub lines-one : (a : List ℕ) → is_whole a ≡ true → IsOneLine a → LinesAreWhole a
lines-one a whole one =
    subst LinesAreWhole (append-nil a) (lines-apart a [] whole one (search rules) (border-nothing (spliced a)) (refl, tt))

-- texts with a line feed between them

joined-feed : (line a b : List ℕ) → ends_back (ends_back false line) a ≡ false
    → joined_lines line (a ++ line_feed ∷ b) ≡ joined_lines line a ++ joined_lines [] b
joined-feed line [] b ends = grind (arith, nat_tests, keep-is line (line_feed ∷ []))
joined-feed line (x ∷ a) b ends = grind (arith, nat_tests, joined-feed [] a b, joined-feed (line ++ x ∷ []) a b, back-append false line (x ∷ []))

all-append : {X : Type 0} (P : X → Type 0) (xs ys : List X) → AllByRecursion P xs → AllByRecursion P ys
    → AllByRecursion P (xs ++ ys)
all-append P xs ys h k = recursion_from_All P _ (All-append P xs ys (All-from_recursion P xs h) (All-from_recursion P ys k))

pub lines-feed : (a b : List ℕ) → keep_lines a (line_feed ∷ []) ≡ true → LinesAreWhole a → LinesAreWhole b
    → LinesAreWhole (a ++ line_feed ∷ b)
lines-feed a b kept of_a of_b = search (rules, joined-feed, keep-is, all-append)

-- a text of whole lines is whole

pub white-next : (a : List ℕ) (w : ℕ) (b : List ℕ) → is_white w ≡ true → have_border a (w ∷ b) ≡ true
white-next a w b white = search rules

pub white-before : (w : ℕ) (b : List ℕ) → is_white w ≡ true → have_border (w ∷ []) b ≡ true
white-before w b white = search rules

pub spliced-other : (b : ℕ) (bs : List ℕ) → (b == backslash) ≡ false → spliced (b ∷ bs) ≡ b ∷ spliced bs
spliced-other b bs other = search rules

feed-whole : (b : List ℕ) → is_whole (line_feed ∷ b) ≡ is_whole b
unfolding is_element is_token is_punctuator
feed-whole b =
    whole-apart (line_feed ∷ []) b refl (keep-is (line_feed ∷ []) b) (white-before line_feed (spliced b) refl)

whole-from : (line bs : List ℕ) → AllByRecursion (λ line. is_whole line ≡ true) (joined_lines line bs)
    → is_whole (line ++ bs) ≡ true
whole-from line [] lines = search rules
whole-from line (b ∷ bs) lines =
    grind (arith, nat_tests, whole-from [] bs, whole-from (line ++ b ∷ []) bs, append_assoc line (b ∷ []) bs, whole-apart, keep-is, spliced-other, white-next, feed-whole)

pub lines-whole : (t : List ℕ) → LinesAreWhole t → is_whole t ≡ true
lines-whole t lines = whole-from [] t lines
