-- Each line mark is a line, if no file has a line feed in its name.
use Rattle.std.proofs.Common.{append-nil}
use Rattle.tangle_c_tokens.specs.Reading.{IsReadAsTexts}
use Rattle.std.proofs.Common.{rules}
use Rattle.std.proofs.Common.{arith}
use Rattle.tangle_c_tokens.proofs.DecimalLemmas.{decimal-digits}
use Rattle.tangle_c_tokens.proofs.TextLemmas.{IsMarkText}
use Rattle.std.proofs.Common.{◌≡◌, ℕ, true, false, List}
use Rattle.std.proofs.Common.{[], ◌∷◌}
use Rattle.std.proofs.Common.{◌++◌, map, drop, get_or, inl, inr, refl}
use Rattle.std.proofs.Common.{append_assoc, codes}
use Rattle.std.specs.Prelude.{decimal}
use Rattle.std.specs.List.{AllByRecursion}
use Rattle.std.proofs.Math.ListN.{get_or-map}
use Rattle.c_tokens.specs.Bytes.{space, double_quote}
use Rattle.c_tokens.specs.Grammar.{ends_quoted}
use Rattle.c_tokens.specs.Borders.{is_whole}
use Rattle.c_lines.specs.JoinedLines.{LinesAreWhole}
use Rattle.c_lines.proofs.LineDirectiveLemmas.{digits-line, digits-whole, spliced-line, word-whole}
use Rattle.c_tokens.proofs.ElementLemmas.{one-element, plain-element}
use Rattle.c_lines.proofs.JoinedLemmas.{IsInLine, in-line-taken, lines-one}
use Rattle.tangle_files.specs.declared.marks.MarkMode.{MarkMode}
use Rattle.tangle_files.specs.declared.marks.MarkMode.TheVariants.{Full, Bare}
use Rattle.tangle_expansion.specs.Numbers.{escaped, mark_end, mark_bytes}
use Rattle.tangle_c_tokens.specs.LineFeeds.{TextHasNoLineFeed}
use Rattle.tangle_c_tokens.proofs.ListLemmas.{all-get}
use Rattle.tangle_c_tokens.proofs.FeedLemmas.{KeepsFeed, keeps-last}
use Rattle.tangle_c_tokens.proofs.TextLemmas.{space-between}
use Rattle.std.proofs.lemmas.Bool.Decides.{nat_tests}

-- a name between quotes

string-whole : (t : List ℕ) → ends_quoted double_quote t ≡ true → IsInLine t → is_whole (double_quote ∷ t) ≡ true
string-whole t ends line = search (rules, spliced-line, one-element, plain-element)

pub name-line : (name more : List ℕ) → TextHasNoLineFeed name → IsInLine more → IsInLine (escaped name ++ more)
name-line [] more none line = line
name-line (b ∷ name) more none line = grind (arith, nat_tests, name-line name more)

pub name-quoted : (name : List ℕ) → TextHasNoLineFeed name
    → ends_quoted double_quote (escaped name ++ double_quote ∷ []) ≡ true
name-quoted [] none = refl
name-quoted (b ∷ name) none = grind (arith, nat_tests, name-quoted name)

-- the whole mark

abbrev pub quoted : List ℕ → List ℕ
quoted name = escaped name ++ double_quote ∷ []

abbrev pub mark_line : ℕ → List ℕ → List ℕ
mark_line n name = codes "#line " ++ (decimal n ++ space ∷ double_quote ∷ quoted name)

mark-lines : (n : ℕ) (name : List ℕ) → TextHasNoLineFeed name → LinesAreWhole (mark_line n name)
mark-lines n name none =
    let string = double_quote ∷ quoted name in
    let in_line : IsInLine string = name-line name (double_quote ∷ []) none refl in
    let alone : IsReadAsTexts (string ∷ []) string =
    search (rules, append-nil, lines-one, string-whole, name-quoted name none, in_line, in-line-taken) in
    let digits = digits-line (decimal n) (decimal-digits n) in
    (space-between (codes "#line") (decimal n ++ space ∷ string) word-whole refl _
    (space-between (decimal n) string (digits-whole (decimal n) (decimal-digits n))
    (in-line-taken false (decimal n) digits) (string ∷ []) alone)).lines

pub mark-keeps : (n : ℕ) (name : List ℕ) → KeepsFeed (mark_line n name)
mark-keeps n name =
    simp append_assoc at
    (keeps-last (codes "#line " ++ (decimal n ++ space ∷ double_quote ∷ escaped name)) [] double_quote refl)

pub mark-is_line : (marks : MarkMode) (n : ℕ) (name : List ℕ) → TextHasNoLineFeed name →
    IsMarkText (drop 1 (mark_bytes marks (mark_end name) n))
mark-is_line Bare n name none = inl refl
mark-is_line Full n name none =
    inr (mark_line n name, search (rules, append_assoc), search (rules, mark-lines, mark-keeps))

pub mark_end-at : (names : List (List ℕ)) (k : ℕ)
    → get_or (map mark_end names) k (mark_end []) ≡ mark_end (get_or names k [])
mark_end-at names k = get_or-map mark_end names k []

pub name-at : (names : List (List ℕ)) (k : ℕ) → AllByRecursion TextHasNoLineFeed names
    → TextHasNoLineFeed (get_or names k [])
name-at names k all = all-get TextHasNoLineFeed names k [] refl all
