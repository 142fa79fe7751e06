-- If tokens follow one another line by line, their items are at their own lines.
use Rattle.std.proofs.Common.{rules}
use Rattle.std.proofs.lemmas.Bool.Decides.{nat_tests}
use Rattle.std.proofs.Common.{◌≡◌, ℕ, ◌+◌, ◌<◌, Bool, true, false, if◌then◌else◌, Option, Some}
use Rattle.std.proofs.Common.{List, [], ◌∷◌, ◌++◌, length, refl, arith, append_assoc, append-nil}
use Rattle.std.proofs.Common.{map, subst}
use Rattle.std.proofs.lemmas.List.{map-append, length-map}
use Rattle.std.specs.List.{list_all}
use Rattle.std.proofs.lemmas.List.Folds.{list_all-append}
use Rattle.tangle_lines.specs.declared.origin.Origin.{Origin}
use Rattle.tangle_lexer.specs.declared.tokens.Token.{Token}
use Rattle.tangle_lexer.specs.declared.tokens.Token.TheVariants as token
use Rattle.tangle_scan.specs.declared.items.Item.{Item}
use Rattle.tangle_lines.specs.Reading.{SourceLine, origin_at}
use Rattle.tangle_scan.specs.Rules.{white_inner_end}
use Rattle.tangle_scan.specs.Rules.{texts_of, without_faults, would_merge, with_spaces, is_gap, has_join, map_runs}
use Rattle.tangle_scan.specs.Rules.{left_of_run}
use Rattle.tangle_scan.specs.Rules.{is_continued, at_line_front, blanks, next_line, part_items}
use Rattle.tangle_scan.specs.LineTruth.{counted_after_line_end}
use Rattle.tangle_scan.specs.LineTruth.{has_line_end, left_or_join, locations, is_expected, with_line_end}
use Rattle.tangle_scan.specs.LineTruth.{origin_after_mark, part_locations, Location, IsOwn, AreAtTheirLines, IsAtItsLine}
use Rattle.tangle_scan.specs.Passes.{items_by_origin, items_after, line_item, turn_after_line_end, is_unmarked, is_whole}
use Rattle.tangle_lexer.proofs.laws.TokenOrder.{line_after, AreByLine}
use Rattle.tangle_scan.proofs.lemmas.ItemsByOrigin.{part_items-by_origin, turn_of, turn-snoc, turn-is}
use Rattle.std.proofs.Common.{◌≤◌, nat_le, None, ◌&&◌, ◌||◌, not, ap, sym, ◌∙◌}
use Rattle.tangle_text.specs.Bytes.{backslash}
use Rattle.tangle_lexer.specs.declared.tokens.SpanKind.TheVariants as span_kind
use Rattle.tangle_scan.specs.declared.items.Item.TheVariants as item
use Rattle.tangle_scan.specs.declared.turns.Turn.{Turn}
use Rattle.tangle_scan.specs.declared.turns.Turn.TheVariants as turn
use Rattle.tangle_scan.specs.Directives.{ForEachChoice, border_after, is_continued_line, is_blank}
use Rattle.tangle_scan.specs.Directives.{is_turn, item_ends_in}
use Rattle.tangle_scan.proofs.lemmas.RuleLemmas.{blanks-item}

-- adding the white space of rule 1 does not change the lines

with_spaces-by_line : (texts : List (List ℕ)) (es : List Token) (line : ℕ)
    → AreByLine texts line es → AreByLine texts line (with_spaces texts es)
with_spaces-by_line texts [] line h = h
with_spaces-by_line texts (e ∷ []) line h = h
with_spaces-by_line texts (e ∷ g ∷ es) line h =
    grind (arith, h.0, with_spaces-by_line texts (g ∷ es) (line_after line e) h.1)

-- rule 1 puts the same white space where line ends of a directive are white space

inner-spaces : (b : Bool) (es : List Token)
    → map white_inner_end ((if b then token.White ∷ [] else []) ++ es)
    ≡ (if b then token.White ∷ [] else []) ++ map white_inner_end es
inner-spaces x es = grind arith

inner-spaced : (texts : List (List ℕ)) (es : List Token)
    → with_spaces texts (map white_inner_end es) ≡ map white_inner_end (with_spaces texts es)
inner-spaced texts [] = refl
inner-spaced texts (e ∷ []) = refl
inner-spaced texts (e ∷ f ∷ es) = grind (arith, inner-spaces (would_merge texts e f), inner-spaced texts (f ∷ es))

inner-join : (run : List Token) → has_join (map white_inner_end run) ≡ has_join run
inner-join [] = refl
inner-join (e ∷ run) = search (rules, inner-join run)

-- all tokens of a run are joins, white space and line ends
abbrev AreGaps : List Token → Type 0
AreGaps run = list_all is_gap run ≡ true

-- The tokens after a run follow from a line on that is not before this one, and is this one if the run has no line end.
after-run : (texts : List (List ℕ)) (line : ℕ) (run es : List Token)
    → AreGaps run → AreByLine texts line (run ++ es)
    → (after : ℕ) × (line ≤ after) × (has_line_end run ≡ false → after ≡ line) × AreByLine texts after es
after-run texts line [] es gaps h = (line, omega arith, λ none. refl, h)
after-run texts line (e ∷ run) es gaps h = grind (arith, after-run texts (line_after line e) run es)

goes-snoc : (texts : List (List ℕ)) (xs : List Item) (x : Item) → is_continued_line texts (xs ++ x ∷ [])
    ≡ (if is_blank x then is_continued_line texts xs else item_ends_in backslash texts x)
goes-snoc texts [] x = grind (arith, nat_tests)
goes-snoc texts (y ∷ ys) x = grind (arith, nat_tests, list_all-append is_blank ys (x ∷ []), goes-snoc texts ys x)

-- After a line that is no turn, a region that is read comes only after one that is read.
each : (texts : List (List ℕ)) (line : List Item) (read : Bool) (P : Bool → Type 0)
    → ((now : Bool) → (is_turn texts line ≡ false → now ≡ true → read ≡ true) → P now)
    → ForEachChoice (border_after texts line) read P
each texts line read P h = grind (arith, nat_tests)

module _ (lines : List SourceLine) where
  abbrev texts : List (List ℕ)
  texts = texts_of lines

  -- What is known before the tokens from source line `number` on: outside of stretches the origin that rule 5 counts is
  -- that of this line, and a compiler that reads the region counts the origin that rule 5 counts.
  record Inv (before : Option Token) (at : Turn) (counted : Origin) (stretch : Bool) (number : ℕ) (read : Bool)
      (origin : Option Origin) (line : List Item) : Type 0 where
    counts : stretch ≡ false → number < length lines → counted ≡ origin_at lines number
    obeys : read ≡ true → number < length lines → origin ≡ Some counted
    turns : number < length lines → turn_of texts line ≡ at
    goes : is_continued_line texts line ≡ is_continued texts before

  -- From each line on from which the tokens `es` follow line by line, the source items that rules 3 to 5 make of `fs`
  -- are at the locations of `gs`.
  abbrev AreTrue : List Token → List Token → List Token → Type 0
  AreTrue es fs gs =
      (before : Option Token) (at : Turn) (white : Bool) (counted : Origin) (stretch : Bool) (number : ℕ) (read : Bool)
      (origin : Option Origin) (line : List Item)
      → Inv before at counted stretch number read origin line → AreByLine texts number es
      → AreAtTheirLines lines read origin line (items_after lines before at counted white fs)
      (locations lines before counted stretch gs)

  -- the next source line, where there is one

  not-last : (n number : ℕ) → n ≡ number → number + 1 < length lines → nat_le (length lines) (n + 1) ≡ false
  not-last n number same real = grind (arith, nat_tests)

  expected-is : (counted : Origin) (n number : ℕ) → n ≡ number → number + 1 < length lines
      → is_expected lines counted n ≡ true → next_line counted ≡ origin_at lines (number + 1)
  expected-is counted n number same real is = grind (arith, nat_tests, not-last n number same real)

  after-is : (counted : Origin) (n number : ℕ) → n ≡ number → number + 1 < length lines
      → (if is_expected lines counted n then next_line counted else origin_at lines (n + 1)) ≡ origin_at lines (number + 1)
  after-is counted n number same real = grind (arith, nat_tests, expected-is)

  -- what is true from here on
  module _ (before : Option Token) (at : Turn) (counted : Origin) (stretch : Bool) (number : ℕ) (read : Bool)
      (origin : Option Origin) (line : List Item) (h : Inv before at counted stretch number read origin line) where
    -- a source item
    own : (n : ℕ) (x : Item) → n ≡ number → n < length texts
        → IsOwn lines read origin x (record { item = x; line = n; in_stretch = stretch })
    own n x same inside = grind (arith, length-map lines (λ l. l.bytes))

    -- one token other than a join, white space and a line end, before others
    item-true : (e : Token) (es fs gs : List Token)
        → is_gap e ≡ false → AreTrue es fs gs → AreByLine texts number (e ∷ es)
        → AreAtTheirLines lines read origin line
        (items_by_origin lines before at counted (e ∷ blanks texts (Some e) false fs))
        (locations lines before counted stretch (e ∷ gs))
    item-true (token.Span span_kind.Word s) es fs gs gap next ordered =
        (search (rules, own), search (rules, turn-snoc, goes-snoc))
    item-true (token.Span kind s) es fs gs gap next ordered =
        (search (rules, own), search (rules, turn-snoc, goes-snoc))
    item-true (token.AsciiConstant b n) es fs gs gap next ordered =
        (own n (item.AsciiConstant b) ordered.0.0 (rw ordered.0.0 ordered.0.1), search (rules, turn-snoc, goes-snoc))
    item-true e es fs gs gap next ordered = search (rules, expected-is, turn-snoc, goes-snoc)

    -- the end of a line, with what is true of the rest
    end-true : (n : ℕ) (rest : List Item) (ss : List Location) →
        let continued : Bool = is_continued texts before in
        let after : Origin = counted_after_line_end lines continued counted n in
        n ≡ number
        → ((now : Bool) (from : Option Origin) (more : List Item)
        → Inv (at_line_front texts before n) (turn_after_line_end lines continued n at) after
        (continued && not (is_expected lines counted n)) (number + 1) now from more
        → AreAtTheirLines lines now from more rest ss)
        → AreAtTheirLines lines read origin line (line_item lines continued (is_whole at) counted n ∷ rest) ss
    end-true n rest ss same next = by (is_continued texts before) (is_unmarked lines (is_whole at) counted n) refl refl next
      where
        last : Bool
        last = nat_le (length lines) (n + 1)

        expected : Bool
        expected = is_expected lines counted n

        mark : Origin
        mark = origin_at lines (n + 1)

        -- what is known of the rest, which is true
        Rest : Bool → Type 0
        Rest c =
            (now : Bool) (from : Option Origin) (more : List Item)
            → Inv (if c then Some (token.LineEnd n) else None) (if c || last then at else turn.NoItem)
            (if c || expected then next_line counted else mark) (c && not expected) (number + 1) now from more
            → AreAtTheirLines lines now from more rest ss

        no-turn : (t : Bool) → is_whole at ≡ t → number + 1 < length lines → (if t then last else expected) ≡ true
            → (is_turn texts line ≡ false) × (expected ≡ true)
        no-turn true e real is = grind (arith, nat_tests, not-last n number same real)
        no-turn false e real is = (turn-is texts line ∙ ap is_whole (h.turns (omega arith)) ∙ e, is)

        -- what is known after a line that is not continued
        known : (now : Bool) (from : Option Origin)
            → (now ≡ true → number + 1 < length lines → from ≡ Some (if expected then next_line counted else mark))
            → Inv None (if last then at else turn.NoItem) (if expected then next_line counted else mark) false (number + 1)
            now from []
        known now from obeys = search (rules, after-is, not-last)

        by : (c u : Bool) → is_continued texts before ≡ c → is_unmarked lines (is_whole at) counted n ≡ u → Rest c
            → AreAtTheirLines lines read origin line ((if c || u then item.LineEnd else item.LineMark mark) ∷ rest) ss
        by true u e is next =
            rw (h.goes ∙ e) (next read (with_line_end origin) (line ++ item.LineEnd ∷ [])
            (search (rules, expected-is, turn-snoc, goes-snoc)))
        by false true e is next =
            rw (h.goes ∙ e) (each texts line read _ (λ now allowed. next now _ [] (known now (with_line_end origin) (λ now_read real.
            let plain = no-turn (is_whole at) refl real is in rw (h.obeys (allowed plain.0 now_read) (omega arith), plain.1) refl))))
        by false false e is next =
            each texts line read _ (λ now allowed. next now _ [] (known now (origin_after_mark now mark origin) (λ now_read real.
            rw now_read (ap Some (ap (λ k. origin_at lines (k + 1)) same ∙ sym (after-is counted n number same real))))))

  -- such a token, and the blank that may be before it
  first-true : (e : Token) (es fs gs : List Token) → is_gap e ≡ false → AreTrue es fs gs
      → AreTrue (e ∷ es) (e ∷ fs) (e ∷ gs)
  first-true e es fs gs gap next before at white counted stretch number read origin line h ordered =
      let here = item-true before at counted stretch number read origin in
      let after = here (line ++ item.Blank ∷ []) (search (rules, turn-snoc, goes-snoc)) in
      grind (arith, nat_tests, blanks-item, here line h e es fs gs gap next, after e es fs gs gap next)

  -- a run that rule 2 does not remove, before other tokens
  kept-true : (run es fs gs : List Token)
      → AreGaps run → has_join run ≡ false → AreTrue es fs gs
      → AreTrue (run ++ es) (map white_inner_end run ++ fs) (run ++ gs)
  kept-true [] es fs gs gaps none next before at white counted stretch number read origin line h ordered = grind arith
  kept-true (token.InnerLineEnd n ∷ run) es fs gs gaps none next before at white counted stretch number read origin line h ordered =
      kept-true run es fs gs gaps none next before at true counted true (number + 1) read origin line (search rules) ordered.1
  kept-true (token.LineEnd n ∷ run) es fs gs gaps none next before at white counted stretch number read origin line h ordered =
      end-true before at counted stretch number read origin line h n _ _ ordered.0
      (λ now from more known. kept-true run es fs gs gaps none next (at_line_front texts before n) _ false _ _ (number + 1)
      now from more known ordered.1)
  kept-true (x ∷ run) es fs gs gaps none next before at white counted stretch number read origin line h ordered =
      search (rules, kept-true run es fs gs)

  -- what rule 2 leaves of a run, before other tokens
  run-true : (run es fs gs : List Token)
      → AreGaps run → AreTrue es fs gs
      → AreTrue (run ++ es) (left_of_run (map white_inner_end run) ++ fs) (left_or_join run ++ gs)
  run-true run es fs gs gaps next before at white counted stretch number read origin line h ordered =
      rw (inner-join run) (by (has_join run) refl (has_line_end run) refl)
    where
      by : (j : Bool) → has_join run ≡ j → (b : Bool) → has_line_end run ≡ b
          → AreAtTheirLines lines read origin line
          (items_after lines before at counted white ((if j then [] else map white_inner_end run) ++ fs))
          (locations lines before counted stretch ((if j then (if b then token.Join ∷ [] else []) else run) ++ gs))
      by true joined true ends =
          let after = after-run texts number run es gaps ordered in
          let least = after.1 in
          next before at white counted true after.0 read origin line (grind (arith, h.obeys, h.turns, h.goes)) after.3
      by true joined false ends =
          let after = after-run texts number run es gaps ordered in
          next before at white counted stretch number read origin line h (subst (λ n. AreByLine texts n es) (after.2 ends) after.3)
      by false none b ends =
          kept-true run es fs gs gaps none next before at white counted stretch number read origin line h ordered

  -- rule 2 for all tokens of a part
  abbrev RunsAreTrue : List Token → List Token → Type 0
  RunsAreTrue run es =
      AreTrue (run ++ es) (map_runs left_of_run (map white_inner_end run) (map white_inner_end es))
      (map_runs left_or_join run es)

  run-pushed : (run : List Token) (e : Token) (es : List Token) → AreGaps run → is_gap e ≡ true
      → ((r : List Token) → AreGaps r → RunsAreTrue r es)
      → AreTrue (run ++ e ∷ es)
      (map_runs left_of_run (map white_inner_end run ++ white_inner_end e ∷ []) (map white_inner_end es))
      (map_runs left_or_join (run ++ e ∷ []) es)
  run-pushed run e es gaps gap next =
      let h = next (run ++ e ∷ []) (rw (list_all-append is_gap run (e ∷ []), gaps, gap) refl) in
      grind (arith, nat_tests, append_assoc run (e ∷ []) es, map-append white_inner_end run (e ∷ []))

  at-end : AreTrue [] [] []
  at-end before at white counted stretch number read origin line h ordered = grind (arith, nat_tests)

  map_runs-true : (run es : List Token) → AreGaps run → RunsAreTrue run es
  map_runs-true run [] gaps = λ before at white counted stretch number read origin line h ordered.
      rw (← append-nil (left_of_run (map white_inner_end run)), ← append-nil (left_or_join run))
      (run-true run [] [] [] gaps at-end before at white counted stretch number read origin line h ordered)
  map_runs-true run (token.Join ∷ es) gaps = run-pushed run token.Join es gaps refl (λ r. map_runs-true r es)
  map_runs-true run (e ∷ es) gaps = first_of (
    search (rules, run-pushed, λ (r : List Token). map_runs-true r es),
    search (rules, run-true, first-true, map_runs-true [] es refl),
  )

  -- the items of a part are at their own lines if its tokens follow line by line from the opening mark on
  pub part-true : (line : ℕ) (es : List Token) → AreByLine texts line (without_faults es)
      → IsAtItsLine lines (origin_at lines line) (part_items lines line es) (part_locations lines line es)
  part-true line es ordered read origin begins =
      let clean = without_faults es in
      let spaced = with_spaces-by_line texts clean line ordered in
      rw (part_items-by_origin lines line es, inner-spaced texts clean)
      (map_runs-true [] (with_spaces texts clean) refl None turn.NoItem false (origin_at lines line) false line read origin []
      (record { counts = λ out real. refl; obeys = λ is real. begins is; turns = λ real. refl; goes = refl }) spaced)
