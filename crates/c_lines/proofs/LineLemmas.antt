-- A line feed after a whole text ends its line: the line and what is after it are read each by itself.
use Rattle.std.proofs.Common.{rules}
use Rattle.std.proofs.Common.{◌≡◌, ℕ, zero, suc, ◌≤◌, Bool, true, List, [], ◌∷◌, ◌++◌, take, drop, length, ◌-◌}
use Rattle.std.proofs.Common.{refl, ap, sym, ◌∙◌, append_assoc, append-nil, arith, length-append, length-drop}
use Rattle.std.specs.Prelude.{◌&&◌, not, ◌==◌, filter, Some, None}
use Rattle.std.specs.List.{list_all, concat, join_with_byte, AllByRecursion}
use Rattle.std.specs.Str.{bytes_eq}
use Rattle.std.proofs.lemmas.Bool.{and_from, not-true, false≢true}
use Rattle.std.proofs.lemmas.List.{drop-append-le}
use Rattle.std.proofs.lemmas.List.Folds.{list_any-append}
use Rattle.std.proofs.lemmas.Slice.Eq.{bytes_eq-Decides}
use Rattle.std.proofs.lemmas.Bool.Decides.{nat_tests}
use Rattle.c_tokens.specs.Bytes.{line_feed, backslash}
use Rattle.c_tokens.specs.Grammar.{is_token, is_element, is_punctuator}
use Rattle.c_tokens.specs.Reading.{spliced, longest, elements_from, elements}
use Rattle.c_tokens.specs.Borders.{is_whole, last_byte, keep_lines, has_bytes}
use Rattle.c_lines.specs.Counting.{Place, PlacedElement, next_place, place_after, places}
use Rattle.c_lines.specs.Counting.{with_places, elements_at, tokens_at, lines, lines_from}
use Rattle.c_lines.specs.JoinedLines.{joined_lines, LinesAreWhole, lines_of_each}
use Rattle.c_tokens.proofs.ElementLemmas.{spliced-both}
use Rattle.c_lines.proofs.JoinedLemmas.{IsInLine, IsOneLine, taken-spliced, one-more, joined-is, spliced-other, white-next, white-before}
use Rattle.c_tokens.proofs.BorderLemmas.{border-elements}
use Rattle.c_tokens.proofs.LongestLemmas.{longest-one, elements_all}

-- places

places-bytes : (p : Place) (x : ℕ) (a : List ℕ) (c : ℕ) (r : List ℕ) → not (last_byte x a == backslash && c == line_feed) ≡ true →
    places p (x ∷ a ++ c ∷ r) ≡ places p (x ∷ a) ++ places (place_after p (x ∷ a)) (c ∷ r)
places-bytes p x [] c r kept = rw (not-true (x == backslash && c == line_feed) kept) refl
places-bytes p x (d ∷ []) c r kept = grind (arith, nat_tests)
places-bytes p x (d ∷ e ∷ a) c r kept =
    grind (arith, nat_tests, places-bytes (next_place (next_place p x) d) e a c r kept, places-bytes (next_place p x) d (e ∷ a) c r kept)

places-both : (p : Place) (a b : List ℕ) → keep_lines a b ≡ true → places p (a ++ b) ≡ places p a ++ places (place_after p a) b
places-both p a b kept = search (rules, places-bytes)

places-length : (p : Place) (a : List ℕ) → length (places p a) ≡ length (spliced a)
places-length p (b ∷ c ∷ bs) =
    grind (arith, nat_tests, places-length (next_place (next_place p b) c) bs, places-length (next_place p b) (c ∷ bs))
places-length p a = refl

-- elements, and the places of their bytes

take-some : (k x : ℕ) (a : List ℕ) → 1 ≤ k → has_bytes (take k (x ∷ a)) ≡ true
take-some k x a h = grind (arith, nat_tests)

pub elements-some : (n : ℕ) (a : List ℕ) → list_all has_bytes (elements_from n a) ≡ true
elements-some (suc n) (x ∷ a) = elements-some n a
elements-some zero (x ∷ a) = search (rules, and_from, take-some, longest-one, elements-some (longest is_element (x ∷ a) - 1) a)
elements-some n a = refl

elements-fill : (p : Place) (a : List ℕ) → length (concat (elements a)) ≡ length (places p a)
elements-fill p a = ap length (elements_all 0 (spliced a)) ∙ sym (places-length p a)

with_places-both : (ps qs : List Place) (es fs : List (List ℕ)) → list_all has_bytes es ≡ true → length (concat es) ≡ length ps →
    with_places (ps ++ qs) (es ++ fs) ≡ with_places ps es ++ with_places qs fs
with_places-both [] qs [] fs some same = refl
with_places-both ps qs ([] ∷ es) fs some same = absurd (false≢true some)
with_places-both (p ∷ ps) qs ((b ∷ e) ∷ es) fs some same =
    grind (arith, length-append e (concat es), drop-append-le (length e) ps qs, with_places-both (drop (length e) ps) qs es fs some, length-drop (length e) ps)
with_places-both ps qs es fs some same = absurd (omega arith)

-- a line feed after a whole text

pub keep-feed : (a rest : List ℕ) → keep_lines a (line_feed ∷ []) ≡ true → keep_lines a (line_feed ∷ rest) ≡ true
keep-feed a rest kept = search rules

feed-first : (rest : List ℕ) → elements (line_feed ∷ rest) ≡ (line_feed ∷ []) ∷ elements rest
unfolding is_element is_token is_punctuator
feed-first rest =
    ap (elements_from 0) (spliced-other line_feed rest refl)
    ∙ border-elements (line_feed ∷ []) (spliced rest) refl (white-before line_feed (spliced rest) refl)

pub feed-elements : (l rest : List ℕ) → is_whole l ≡ true → keep_lines l (line_feed ∷ []) ≡ true →
    elements (l ++ line_feed ∷ rest) ≡ elements l ++ (line_feed ∷ []) ∷ elements rest
feed-elements l rest whole kept =
    search (rules, spliced-both, keep-feed, spliced-other, border-elements, not-true, white-next, feed-first)

feed-places : (p : Place) (rest : List ℕ) → places p (line_feed ∷ rest) ≡ p ∷ places (next_place p line_feed) rest
feed-places p [] = refl
feed-places p (c ∷ rest) = refl

-- lines

abbrev is_feed : PlacedElement → Bool
is_feed e = bytes_eq e.text (line_feed ∷ [])

abbrev is_kept : PlacedElement → Bool
is_kept e = is_token e.text

lines-over : (front es rest : List PlacedElement) → list_all (λ e. not (is_feed e)) es ≡ true →
    lines front (es ++ rest) ≡ lines (front ++ filter is_kept es) rest
lines-over front [] rest none = ap (λ t. lines t rest) (sym (append-nil front))
lines-over front (e ∷ es) rest none =
    grind (arith, nat_tests, lines-over (front ++ e ∷ []) es rest, lines-over front es rest, append_assoc front (e ∷ []) (filter is_kept es))

none-feed : (ps : List Place) (es : List (List ℕ)) → IsInLine (concat es) →
    list_all (λ e. not (is_feed e)) (with_places ps es) ≡ true
none-feed ps [] none = refl
none-feed ps (e ∷ es) none =
    grind (arith, nat_tests, list_any-append (λ b. b == line_feed) e (concat es), none-feed (drop (length e) ps) es, bytes_eq-Decides e (line_feed ∷ []))

none-feed-at : (p : Place) (l : List ℕ) → IsOneLine l → list_all (λ e. not (is_feed e)) (elements_at p l) ≡ true
none-feed-at p l joined = search (rules, none-feed, elements_all, taken-spliced)

-- the first line of a text, if a line feed after a whole line ends it
pub line-first : (p : Place) (l rest : List ℕ) → is_whole l ≡ true → IsOneLine l → keep_lines l (line_feed ∷ []) ≡ true →
    lines_from p (l ++ line_feed ∷ rest)
    ≡ record { tokens = tokens_at p l; end = Some (place_after p l) } ∷ lines_from (next_place (place_after p l) line_feed) rest
line-first p l rest whole joined kept =
    rw (feed-elements l rest whole kept, places-both p l (line_feed ∷ rest) (keep-feed l rest kept))
    (search (rules, feed-places, with_places-both, elements-some, elements-fill, lines-over, none-feed-at))

-- the last line
pub line-last : (p : Place) (l : List ℕ) → IsOneLine l → lines_from p l ≡ record { tokens = tokens_at p l; end = None } ∷ []
line-last p l joined =
    ap (lines []) (sym (append-nil (elements_at p l))) ∙ lines-over [] (elements_at p l) [] (none-feed-at p l joined)

-- all lines of a text

each-line-from : (line text : List ℕ) (p : Place) → IsOneLine line → AllByRecursion (λ l. is_whole l ≡ true) (joined_lines line text) →
    lines_from p (line ++ text) ≡ lines_of_each p (joined_lines line text)
each-line-from line [] p one whole = search (rules, line-last)
each-line-from line (b ∷ bs) p one whole =
    grind (arith, nat_tests, each-line-from [] bs (next_place (place_after p line) line_feed) refl, each-line-from (line ++ b ∷ []) bs p, one-more line b one, line-first p line bs, joined-is [] bs, append_assoc line (b ∷ []) bs)

-- the lines of a text that has whole lines are these, each read by itself
pub each_line : (p : Place) (text : List ℕ) → LinesAreWhole text → lines_from p text ≡ lines_of_each p (joined_lines [] text)
each_line p text whole = each-line-from [] text p refl whole

-- the lines are the whole text

lines-joined-by : (line bs : List ℕ) → join_with_byte line_feed (joined_lines line bs) ≡ line ++ bs
lines-joined-by line [] = sym (append-nil line)
lines-joined-by line (b ∷ bs) =
    grind (arith, nat_tests, lines-joined-by [] bs, lines-joined-by (line ++ b ∷ []) bs, append_assoc line (b ∷ []) bs, joined-is [] bs)

pub lines_joined : (text : List ℕ) → join_with_byte line_feed (joined_lines [] text) ≡ text
lines_joined text = lines-joined-by [] text

pub ruleset each_alone = (lines_joined, each_line)
