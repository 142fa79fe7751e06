-- The text of a C part, made token by token.
use Rattle.std.proofs.Common.{rules}
use Rattle.std.proofs.Common.{◌≡◌, ◌∙◌, ℕ, Bool, true, false, List, [], ◌∷◌, ◌++◌, refl, subst, arith, append-nil}
use Rattle.tangle_lexer.specs.declared.tokens.Token.{Token}
use Rattle.tangle_lexer.specs.declared.tokens.Token.TheVariants as token
use Rattle.tangle_lexer.specs.Runs.{is_run, unfolded_token, IsRunOf}
use Rattle.tangle_text.specs.declared.spans.Span.{Span}
use Rattle.tangle_lines.specs.Reading.{SourceLine, origin_at}
use Rattle.tangle_scan.specs.declared.items.Item.{Item}
use Rattle.tangle_scan.specs.declared.items.Item.TheVariants as item
use Rattle.tangle_scan.specs.declared.parts.CountedOrigin.{CountedOrigin}
use Rattle.tangle_scan.specs.declared.parts.Last.TheVariants as last
use Rattle.tangle_scan.specs.declared.parts.PartState.{PartState}
use Rattle.tangle_scan.specs.declared.turns.Turn.TheVariants as turn
use Rattle.tangle_scan.specs.LineTruth.{counted_after_line_end}
use Rattle.tangle_scan.specs.Passes.{IsMade, IsPassed, before_gap, blank_before, blank_if, is_continued_at, counted_after_token}
use Rattle.tangle_scan.specs.Passes.{counted_at_gap, ends_open, is_after_line_end, is_whole, items_at, line_item}
use Rattle.tangle_scan.specs.Passes.{origin_of, size_of, turn_after, turn_after_run, turn_at_gap}
use Rattle.tangle_scan.specs.Rules.{is_gap, part_items, texts_of, white_inner_end}
use Rattle.tangle_scan.specs.Texts.{TextRead, IsTextOf, item_uses, no_text, with_items, with_run}
use Rattle.tangle_scan.proofs.lemmas.PartLemmas.{after_end, blanks-at-front, end-joined, gap-continued, gap-passed}
use Rattle.tangle_scan.proofs.lemmas.PartLemmas.{item-ahead, item-passed, part-ahead, passed-whole}
use Rattle.tangle_scan.proofs.lemmas.RuleLemmas.{is_solid}
use Rattle.tangle_scan.proofs.lemmas.TextLemmas.{cut-back, cut-more, no-items, size-more, size-own, text-items, text-run}
use Rattle.std.proofs.lemmas.Bool.Decides.{nat_tests}
use Rattle.std.proofs.Common.{None}
use Rattle.std.proofs.Common.{append_assoc, map}
use Rattle.std.proofs.Math.Bool.{and-false, or-false, or-true}
use Rattle.tangle_lexer.specs.Runs.{part_token}
use Rattle.tangle_scan.specs.Rules.{left_of_run}
use Rattle.tangle_scan.specs.Rules.{has_join, is_continued, at_line_front}
use Rattle.tangle_scan.specs.Passes.{last_of}
use Rattle.tangle_scan.proofs.lemmas.ItemsByOrigin.{part_items-by_origin}
use Rattle.tangle_scan.proofs.lemmas.RuleLemmas.{has_join-push}
use Rattle.tangle_scan.proofs.lemmas.SpacingLemmas.{spaced-inside}
use Rattle.tangle_scan.proofs.lemmas.RunItems.{run-ends}

module _ (lines : List SourceLine) (whole : List Item) (text : TextRead) (at : PartState) (es : List Token) where
  -- where the text stays as it is, and the gap begins where it began
  pub made-same : (next : PartState) (more : List Token) → next.last ≡ at.last → next.start ≡ at.start
      → ((items kept : List Item) → IsPassed lines whole items kept at es → IsPassed lines whole items kept next more)
      → IsMade lines whole text at es → IsMade lines whole text next more
  made-same next more same start passed h = search rules

  -- where no gap with a line end is open
  settled : (items : List Item) → is_after_line_end at.last ≡ false → IsTextOf (texts_of lines) items text
      → IsPassed lines whole items items at es → IsMade lines whole text at es
  settled items none is passed = search rules

module _ (lines : List SourceLine) (whole : List Item) (text : TextRead) (at : PartState) (es : List Token) where
  abbrev texts : List (List ℕ)
  texts = texts_of lines

  -- a line end of a directive is white space, too
  pub made-white : (e : Token) → is_gap e ≡ true → white_inner_end e ≡ token.White → IsMade lines whole text at (e ∷ es)
      → IsMade lines whole text (record at { has_white = true }) es
  made-white e gap white = made-same lines whole text at (e ∷ es) _ es refl refl (λ items kept h.
      gap-passed lines whole items kept at items _ h.before e token.White es gap white h (λ xs. refl)
      (search (rules, has_join-push, append_assoc, blanks-at-front, or-false, and-false)))

  -- after a join a line end is left out
  pub made-joined-end : (line : ℕ) → at.last ≡ last.Joined → IsMade lines whole text at (token.LineEnd line ∷ es)
      → IsMade lines whole text at es
  made-joined-end line is = made-same lines whole text at (token.LineEnd line ∷ es) at es refl refl (λ items kept h.
      gap-passed lines whole items kept at items at h.before (token.LineEnd line) _ es refl refl h (λ xs. refl)
      (search (rules, end-joined, is)))

  pub made-join : IsMade lines whole text at (token.Join ∷ es)
      → IsMade lines whole (before_gap text at)
      (record at { last = last.Joined; turn = turn_at_gap at; counted = counted_at_gap at }) es
  made-join h =
      let was = h.passed in
      settled lines whole _ _ es h.kept refl h.kept_text
      (gap-passed lines whole h.items h.kept at h.kept _ was.front token.Join _ es refl refl was (λ xs. refl)
      (search (rules, has_join-push, or-true)))

  -- the items so far with one more, and the state, after a line end
  pub made-end : (line : ℕ) (counted : CountedOrigin) → (at.last ≡ last.Joined → ⊥) →
      let continued : Bool = is_continued_at texts at in
      origin_of counted ≡ counted_after_line_end lines continued (origin_of at.counted) line
      → IsMade lines whole text at (token.LineEnd line ∷ es)
      → IsMade lines whole
      (with_items texts text (line_item lines continued (is_whole at.turn) (origin_of at.counted) line ∷ []))
      (after_end lines continued line text counted at) es
  made-end line counted other is h =
      let continued : Bool = is_continued_at texts at in
      let made = line_item lines continued (is_whole at.turn) (origin_of at.counted) line in
      let was = h.passed in
      let joinless : has_join was.gap ≡ false = search rules in
      let is_continued_by : is_continued texts was.before ≡ continued = search rules in
      let same_left = gap-continued lines h.kept at continued line text counted was.front in
      let none : item_uses made ≡ [] = grind arith in
      record {
        items = h.items ++ made ∷ [];
        kept = h.kept;
        passed = gap-passed lines whole h.items h.kept at _ _ (at_line_front texts was.before line) (token.LineEnd line) _ es
            refl refl was same_left (record {
              joined = grind (arith, end-joined);
              made = λ xs. rw (same_left (left_of_run (was.gap ++ token.LineEnd line ∷ []) ++ xs), end-joined was.gap line, joinless)
                  (search (rules, append_assoc, was.read.made (token.LineEnd line ∷ xs), and-false));
              keeps = λ _. rw is_continued_by (grind arith);
              continued = λ _. grind arith;
              front_open = was.read.front_open;
              before_open = rw is_continued_by (grind arith);
              merges = search rules;
            });
        all_text = search (rules, text-items);
        kept_text = grind (arith, h.kept_text, cut-more texts at.start.size text made, cut-back texts text made, h.start, none);
        start = λ _. grind (arith, h.start, size-more texts at.start.size text (made ∷ []), size-own texts text (made ∷ []));
      }

  pub made-item : (e : Token) (counted : CountedOrigin) → is_solid e ≡ true → is_run e ≡ false
      → origin_of counted ≡ counted_after_token lines (origin_of at.counted) e
      → IsMade lines whole text at (e ∷ es)
      → IsMade lines whole
      (with_items texts (with_items texts text (blank_if (blank_before lines at e))) (items_at lines e))
      (record at { last = last.Item; has_white = false; item = e; turn = turn_after texts at.turn e; counted = counted }) es
  made-item e counted solid run is h =
      settled lines whole _ _ es _ refl
      (text-items texts _ (items_at lines e) _ (text-items texts h.items (blank_if (blank_before lines at e)) text h.all_text))
      (item-passed lines whole h.items h.kept at _ (record at { item = e; turn = turn_after texts at.turn e; counted = counted }) e es
      (grind arith) refl (grind arith) (λ f other. grind arith)
      (item-ahead lines whole h.items h.kept at e es solid run h.passed ∙ rw (is, append_assoc, append_assoc) refl))

  pub made-run : (s : Span) → IsRunOf texts s → IsMade lines whole text at (unfolded_token texts (token.Run s) ++ es)
      → IsMade lines whole
      (with_run texts (with_items texts text (blank_if (blank_before lines at (token.Run s)))) s)
      (record at { last = last.Item; has_white = false; item = token.Run s; turn = turn_after_run texts at.turn s }) es
  made-run s run h =
      let ends = run-ends texts s run in
      let last = ends.last in
      let was = subst (λ ps. IsPassed lines whole h.items h.kept at (map part_token ps ++ es)) ends.parts h.passed in
      settled lines whole _ _ es _ refl
      (text-run texts _ s _ (text-items texts h.items (blank_if (blank_before lines at (token.Run s))) text h.all_text))
      (rw ends.parts
      (item-passed lines whole h.items h.kept at _ (record at { item = token.Run s; turn = turn_after_run texts at.turn s })
      (last_of (part_token ends.first) ends.others) es last.solid
      (last.joins ∙ run.ends) last.opens (λ f other. grind (arith, nat_tests, last.merges, last.plain))
      (part-ahead lines whole h.items h.kept at s ends.first ends.others es ends.parts ends.number ends.apart was
      ∙ rw (ends.merges at.item, append_assoc, append_assoc) refl)))

  -- at the end of the part, with a blank or without one

  pub made-open : es ≡ [] → ends_open texts at ≡ true → IsMade lines whole text at es
      → IsTextOf texts whole (with_items texts text (item.Blank ∷ []))
  made-open none ends h =
      rw (← passed-whole lines whole h.items h.kept at es none h.passed, ends) (text-items texts h.items (item.Blank ∷ []) text h.all_text)

  pub made-closed : es ≡ [] → ends_open texts at ≡ false → IsMade lines whole text at es → IsTextOf texts whole text
  made-closed none closed h =
      rw (← passed-whole lines whole h.items h.kept at es none h.passed, closed, append-nil h.items) h.all_text

pub made-begin : (lines : List SourceLine) (line : ℕ) (text : TextRead) (at : PartState) (es : List Token)
    → text ≡ no_text → at.last ≡ last.Front → at.item ≡ token.White → at.turn ≡ turn.NoItem
    → at.start.size ≡ size_of text → at.start.turn ≡ turn.NoItem
    → origin_of at.counted ≡ origin_at lines line → origin_of at.start.counted ≡ origin_at lines line
    → IsMade lines (part_items lines line es) text at es
made-begin lines line text at es empty front none turns size start_turn is start_is = rw (empty) (record {
  items = [];
  kept = [];
  passed = record {
    gap = [];
    front = None;
    before = None;
    prev = token.White;
    read = grind arith;
    left = rw (front, start_turn, start_is) (search (rules, part_items-by_origin, spaced-inside));
  };
  all_text = no-items (texts_of lines);
  kept_text = rw (front, size, empty) (no-items (texts_of lines));
  start = λ _. rw (size, empty) (record { tags = omega arith; bytes = omega arith; marks = omega arith });
})
