-- How the items of a piece lie in its row: those of parts, with a blank, a line end or a mark between two of them, and
-- each use by itself.
use Rattle.std.proofs.Common.{rules, arith}
use Rattle.std.proofs.Common.{◌≡◌, ◌+◌, ℕ, Bool, true, false, ◌&&◌, not, if◌then◌else◌, List, [], ◌∷◌, ◌++◌, flat_map, map}
use Rattle.std.proofs.Common.{append_assoc, append-nil, Option, Some, None, is_some, refl, ap, sym, ◌∙◌, subst}
use Rattle.std.proofs.Math.Bool.{and-true}
use Rattle.std.specs.List.{last_or, list_all}
use Rattle.std.proofs.lemmas.Bool.{cond_both, false≢true, or_right, and_from}
use Rattle.std.proofs.lemmas.List.Concat.{flat_map-append}
use Rattle.std.proofs.lemmas.List.Folds.{list_all-append}
use Rattle.tangle_lines.specs.declared.origin.Origin.{Origin}
use Rattle.tangle_lines.specs.Reading.{SourceLine, origin_at}
use Rattle.tangle_lexer.specs.declared.tokens.Token.{Token}
use Rattle.tangle_lexer.specs.declared.tokens.Token.TheVariants as token
use Rattle.tangle_lexer.specs.LinesOfParts.{is_use}
use Rattle.tangle_scan.specs.declared.items.Item.{Item}
use Rattle.tangle_scan.specs.declared.items.Item.TheVariants as item
use Rattle.tangle_scan.specs.Rules.{texts_of, is_open, is_continued, ends_line, is_front_gap, blanks, next_line}
use Rattle.tangle_scan.specs.Rules.{part_tokens, part_items, next_item}
use Rattle.tangle_scan.specs.LineTruth.{counted_after_line_end}
use Rattle.tangle_scan.specs.Passes as passes
use Rattle.tangle_scan.specs.Passes.{TurnSoFar, counted_after_token, items_at, items_by_origin, turn_after, is_unmarked}
use Rattle.tangle_scan.specs.ItemBytes.{piece_item_bytes}
use Rattle.tangle_scan.specs.ReadAsMeant.{token_bytes}
use Rattle.tangle_scan.proofs.lemmas.ItemsByOrigin.{part_items-by_origin}
use Rattle.tangle_scan.proofs.lemmas.RuleLemmas.{blanks-item}
use Rattle.tangle_c_tokens.specs.Groups.{Group, group_before}
use Rattle.tangle_c_tokens.specs.Pieces.{Passage, OfPart, OfMark, mark_place, row_after, written_for, part_text}
use Rattle.tangle_c_tokens.specs.Pieces.{line_feed_follows, is_closed}
use Rattle.tangle_c_tokens.proofs.GroupLemmas.{last-item, text-more}
use Rattle.tangle_c_tokens.proofs.OneLineLemmas.{AreOnLine, more-on_line}
use Rattle.c_lines.proofs.JoinedLemmas.{IsOneLine, ends_back, feeds_taken, back-append, taken-append, back-more}

abbrev pub is_mark : Item → Bool
is_mark (item.LineMark origin) = true
is_mark x = false

-- an item of a part; a line end there continues its line
abbrev pub is_inner : Item → Bool
is_inner item.Blank = false
is_inner (item.LineMark origin) = false
is_inner (item.UseOf occurrence) = false
is_inner item.AllMacros = false
is_inner x = true

pub data IsUseItem : Token → Item → Type 0 where
  OfUse : (line occurrence : ℕ) → IsUseItem (token.UseOf line occurrence) (item.UseOf occurrence)
  OfMacros : (line : ℕ) → IsUseItem (token.AllMacros line) item.AllMacros

-- a token of a part, which is no use by itself
abbrev pub is_item : Token → Bool
is_item e = not (is_use e)

module _ (lines : List SourceLine) (used : ℕ → List ℕ) (mark : Origin → List ℕ) (macros : List ℕ) where
  abbrev texts : List (List ℕ)
  texts = texts_of lines

  abbrev pub item_bytes : Item → List ℕ
  item_bytes x = piece_item_bytes texts used mark macros x

  abbrev pub text : List Token → List ℕ
  text items = part_text texts used macros items

  -- items may be directly after those of a part
  abbrev pub Meets : Group → List Item → Type 0
  Meets part [] = (next_item part.rest ≡ None) × (is_closed texts used macros (last_or None part.items) ≡ true)
  Meets part (item.Blank ∷ xs) = Unit {0}
  Meets part (item.UseOf occurrence ∷ xs) = Unit {0}
  Meets part (item.LineEnd ∷ xs) = line_feed_follows texts used macros part ≡ true
  Meets part (item.LineMark origin ∷ xs) = line_feed_follows texts used macros part ≡ true
  Meets part (item.AllMacros ∷ xs) = line_feed_follows texts used macros part ≡ true
  Meets part (x ∷ xs) = ⊥

  -- the items of these tokens, which are those of a part: none is a use, and they are on one line
  pub record AreItems (items : List Token) (own : List Item) : Type 0 where
    pub bytes : flat_map item_bytes own ≡ text items
    pub inner : list_all is_inner own ≡ true
    pub are : list_all is_item items ≡ true
    pub one : IsOneLine (text items)

  -- the items of a part, and those after it
  pub record IsPart (part : Group) (own xs : List Item) : Type 0 where
    pub items : AreItems part.items own
    pub meets : Meets part xs

  -- What is true of a row and its items is shown from the end on.
  module _ (P : List Passage → List Item → Type 0) (ends : P [] [])
      (blank : (row : List Passage) (xs : List Item) → P row xs → P row (item.Blank ∷ xs))
      (feed : (row : List Passage) (xs : List Item) → P row xs → P row (item.LineEnd ∷ xs))
      (of_mark : (origin : Origin) (row : List Passage) (xs : List Item) → P row xs
      → P (OfMark origin ∷ row) (item.LineMark origin ∷ xs))
      (of_use : (e : Token) (x : Item) (es : List Token) (origin : Origin) (row : List Passage) (xs : List Item)
      → IsUseItem e x → P row (item.LineMark origin ∷ xs)
      → P (OfPart (record { items = e ∷ []; rest = es }) ∷ row) (x ∷ item.LineMark origin ∷ xs))
      (of_part : (part : Group) (own : List Item) (row : List Passage) (xs : List Item) → IsPart part own xs → P row xs
      → P (OfPart part ∷ row) (own ++ xs)) where
    -- where tokens are: what rules 3 to 5 know before them
    record At : Type 0 where
      before : Option Token
      white : Bool
      turn : TurnSoFar
      counted : Origin

    abbrev after_white : At → At
    after_white at = record { before = at.before; white = true; turn = at.turn; counted = at.counted }

    -- directly after a token other than white space and a line end
    abbrev after : Token → At → At
    after e at = record {
      before = Some e;
      white = false;
      turn = turn_after texts at.turn e;
      counted = counted_after_token lines at.counted e;
    }

    -- after a line end, which does not continue its line, or does
    abbrev after_end : ℕ → At → At
    after_end line at = record {
      before = None;
      white = false;
      turn = passes.turn_after_line_end lines false line at.turn;
      counted = counted_after_line_end lines false at.counted line;
    }

    abbrev after_continued : ℕ → At → At
    after_continued line at = record {
      before = Some (token.LineEnd line);
      white = false;
      turn = at.turn;
      counted = next_line at.counted;
    }

    abbrev items_from : At → List Token → List Item
    items_from at es = items_by_origin lines at.before at.turn at.counted (blanks texts at.before at.white es)

    -- the row of these items, where a part has these tokens so far
    abbrev row_of : List Token → List Item → List Token → List Passage
    row_of items xs es = row_after texts items (flat_map mark_place xs) es

    abbrev is_continued_at : At → List Token → Bool
    is_continued_at at es = is_continued texts at.before && ends_line es

    -- The items of a part so far, which goes on: white space is only where a backslash continues the line.
    record IsOpen (items : List Token) (own : List Item) (at : At) (es : List Token) : Type 0 where
      so_far : AreItems items own
      later : AreOnLine texts (ends_back false (text items)) es
      some : is_some at.before ≡ true
      before : at.before ≡ last_or None items
      closed : is_open texts at.before ≡ false → is_closed texts used macros at.before ≡ true
      back : is_continued texts at.before ≡ true → ends_back false (text items) ≡ true
      white : at.white ≡ true → is_continued_at at es ≡ true

    -- what is true after a part or at the front of a line, and within a part
    record Lays (es : List Token) : Type 0 where
      closed : (at : At) → is_continued_at at es ≡ false → AreOnLine texts false es
          → P (row_of [] (items_from at es) es) (items_from at es)
      within : (items : List Token) (own : List Item) (at : At) → IsOpen items own at es
          → P (row_of items (items_from at es) es) (own ++ items_from at es)

    close : (items rest : List Token) (own xs : List Item) (at : At) (es : List Token) (row : List Passage)
        → IsOpen items own at es → Meets (record { items = items; rest = rest }) xs → P row xs
        → P (map OfPart (group_before rest items) ++ row) (own ++ xs)
    close [] rest own xs at es row o meets p = absurd (false≢true (sym (ap is_some o.before) ∙ o.some))
    close (e ∷ items) rest own xs at es row o meets p =
        of_part (record { items = e ∷ items; rest = rest }) own row xs
        (record { items = o.so_far; meets = meets }) p

    -- a token is on the line of the items before it, and so are the tokens after it
    abbrev IsNext : List Token → Token → List Token → Type 0
    IsNext items e es =
        let t : List ℕ = token_bytes texts (written_for texts used macros) e in
        (feeds_taken (ends_back false (text items)) t ≡ true)
        × ((is_continued texts (Some e) ≡ true → ends_back false t ≡ true)
        × AreOnLine texts (ends_back (ends_back false (text items)) t) es)

    more-open : (items : List Token) (own xs : List Item) (e : Token) (at : At) (es : List Token)
        → AreItems items own → IsNext items e es
        → flat_map item_bytes xs ≡ token_bytes texts (written_for texts used macros) e → list_all is_inner xs ≡ true
        → is_use e ≡ false → at.before ≡ Some e → at.white ≡ false → IsOpen (items ++ e ∷ []) (own ++ xs) at es
    more-open items own xs e at es o on of_e inner_e no_use before white =
        let t = token_bytes texts (written_for texts used macros) e in
        let more = text-more (token_bytes texts (written_for texts used macros)) items e in
        let ends = ap (ends_back false) more ∙ back-append false (text items) t in
        let so_far : AreItems (items ++ e ∷ []) (own ++ xs) =
        search (rules, flat_map-append, list_all-append, more, taken-append, and_from, o, of_e, on.0) in
        record {
          so_far = so_far;
          later = subst (λ b. AreOnLine texts b es) (sym ends) on.1.1;
          some = ap is_some before;
          before = before ∙ sym (last-item None items e);
          closed = λ none. grind (arith, before, no_use);
          back = λ is. grind (arith, ends, back-more, on, before);
          white = λ is. absurd (false≢true (sym white ∙ is));
        }

    -- the end of a piece

    at-end : (at : At) → P [] (items_from at [])
    at-end at = search (rules, blank, ends)

    meets-end : (items rest : List Token) (own : List Item) (at : At) (es : List Token) → IsOpen items own at es → next_item rest ≡ None
        → Meets (record { items = items; rest = rest }) (items_from at [])
    meets-end items rest own at es o next = grind (arith, next, o.before, o.closed)

    -- a line end after a part, and white space

    meets-feed : (items rest : List Token) (line : ℕ) (at : At) (es : List Token) → ends_line rest ≡ true
        → Meets (record { items = items; rest = rest }) (items_from at (token.LineEnd line ∷ es))
    meets-feed items rest line at es ends = grind (arith, ends)

    meets-white : (items rest : List Token) (own : List Item) (at : At) (all : List Token) → IsOpen items own at all
        → (es : List Token) → ends_line rest ≡ ends_line es → next_item rest ≡ next_item es
        → Meets (record { items = items; rest = rest }) (items_from (after_white at) es)
    meets-white items rest own at all o [] line next = meets-end items rest own at all o next
    meets-white items rest own at all o (e ∷ es) line next =
        search (rules, meets-white items rest own at all o es, meets-feed, o.some)

    lay-white : (es : List Token) → Lays es → Lays (token.White ∷ es)
    lay-white es next = record {
      closed = λ at is. next.closed (after_white at) is;
      within = λ items own at o.
          let xs : List Item = items_from (after_white at) es in
          let same = ap (λ e. is_continued texts e && ends_line es) o.before in
          cond_both (is_continued texts (last_or None items) && ends_line es) _ _ (λ row. P row (own ++ xs))
          (λ is. let on : (is_continued texts at.before && ends_line es) ≡ true = same ∙ is in
          next.within items own (after_white at) (search (rules, o, more-on_line texts es, on)))
          (λ is. close items (token.White ∷ es) own _ at (token.White ∷ es) _ o
          (meets-white items (token.White ∷ es) own at _ o es refl refl)
          (next.closed (after_white at) (same ∙ is) o.later));
    }

    -- a line end

    lay-end : (line : ℕ) (es : List Token) → Lays es → Lays (token.LineEnd line ∷ es)
    lay-end line es next = record {
      closed = λ at is. ended at (sym (and-true (is_continued texts at.before)) ∙ is);
      within = λ items own at o.
          let xs : List Item = items_from at (token.LineEnd line ∷ es) in
          let same = ap (is_continued texts) o.before in
          cond_both (is_continued texts (last_or None items)) _ _ (λ row. P row (own ++ xs))
          (λ is. rw (same ∙ is) (subst (P _) (append_assoc own (item.LineEnd ∷ []) (items_from (after_continued line at) es))
          (next.within (items ++ token.LineEnd line ∷ []) (own ++ item.LineEnd ∷ []) (after_continued line at)
          (more-open items own (item.LineEnd ∷ []) (token.LineEnd line) _ es o.so_far
          (search (rules, o.back (same ∙ is), o.later, false≢true)) refl refl refl refl refl))))
          (λ is. close items (token.LineEnd line ∷ es) own _ at _ _ o
          (meets-feed items (token.LineEnd line ∷ es) line at es refl) (ended at (same ∙ is) o.later));
    }
      where
        ended : (at : At) → is_continued texts at.before ≡ false → AreOnLine texts false es
            → P (row_of [] (items_from at (token.LineEnd line ∷ es)) (token.LineEnd line ∷ es)) (items_from at (token.LineEnd line ∷ es))
        ended at ends on =
            let h = next.closed (after_end line at) refl on in
            grind (arith, ends, feed _ _ h, of_mark (origin_at lines (line + 1)) _ _ h)

    -- a token other than white space and a line end, and a blank before it

    abbrev own_items : Token → At → List Token → List Item
    own_items e at es = items_at lines e ++ items_from (after e at) es

    abbrev blanked : Bool → List Item → List Item
    blanked b xs = if b then item.Blank ∷ xs else xs

    at-item : (at : At) (e : Token) (es : List Token) → is_front_gap e ≡ false
        → items_from at (e ∷ es) ≡ blanked (is_some at.before && at.white) (own_items e at es)
    at-item at e es solid =
        let one : items_by_origin lines at.before at.turn at.counted
        (e ∷ blanks texts (Some e) false es) ≡ own_items e at es = search rules in
        grind (arith, blanks-item texts at.before at.white e es solid, one)

    lay-solid : (e : Token) (es : List Token) → is_front_gap e ≡ false → ends_line (e ∷ es) ≡ false
        → ((at : At) → AreOnLine texts false (e ∷ es)
        → P (row_of [] (own_items e at es) (e ∷ es)) (own_items e at es))
        → ((items : List Token) (own : List Item) (at : At) → IsOpen items own at (e ∷ es)
        → P (row_of items (own_items e at es) (e ∷ es)) (own ++ own_items e at es)) → Lays (e ∷ es)
    lay-solid e es solid line first inside = record {
      closed = λ at is on.
          subst (λ xs. P (row_of [] xs (e ∷ es)) xs) (sym (at-item at e es solid))
          (cond_both (is_some at.before && at.white) _ _ (λ xs. P (row_of [] xs (e ∷ es)) xs)
          (λ b. blank _ _ (first at on)) (λ b. first at on));
      within = λ items own at o.
          let none : (is_some at.before && at.white) ≡ false = grind (arith, line, o.white) in
          rw (at-item at e es solid, none) (inside items own at o);
    }

    lay-item : (e : Token) (es : List Token) → is_front_gap e ≡ false → is_use e ≡ false → ends_line (e ∷ es) ≡ false
        → ((items : List Token) → AreOnLine texts (ends_back false (text items)) (e ∷ es) → IsNext items e es)
        → ((items : List Token) (places : List (List Origin))
        → row_after texts items places (e ∷ es) ≡ row_after texts (items ++ e ∷ []) places es) → Lays es → Lays (e ∷ es)
    lay-item e es solid no_use line on_line more next =
        lay-solid e es solid line
        (λ at on. goes-on [] [] at (record { bytes = refl; inner = refl; are = refl; one = refl }) on)
        (λ items own at o. goes-on items own at o.so_far o.later)
      where
        goes-on : (items : List Token) (own : List Item) (at : At) → AreItems items own
            → AreOnLine texts (ends_back false (text items)) (e ∷ es)
            → P (row_of items (own_items e at es) (e ∷ es)) (own ++ own_items e at es)
        goes-on items own at o on =
            let rest = items_from (after e at) es in
            let no_places : flat_map mark_place (items_at lines e) ≡ [] = search rules in
            rw (more items _, flat_map-append mark_place (items_at lines e) rest, no_places)
            (subst (P _) (append_assoc own (items_at lines e) rest)
            (next.within (items ++ e ∷ []) (own ++ items_at lines e) (after e at)
            (more-open items own (items_at lines e) e _ es o (on_line items on) (search (rules, append-nil))
            (search rules) no_use refl refl)))

    lay-use : (line occurrence : ℕ) (es : List Token) → Lays es → Lays (token.UseOf line occurrence ∷ es)
    lay-use line occurrence es next =
        let e : Token = token.UseOf line occurrence in
        let first : (at : At) → AreOnLine texts false es → P (row_of [] (own_items e at es) (e ∷ es)) (own_items e at es)
        = λ at on. of_use _ _ es _ _ _ (OfUse line occurrence) (of_mark _ _ _ (next.closed (after e at) refl on)) in
        lay-solid _ es refl refl first (λ items own at o. close items _ own _ at _ _ o tt (first at o.later))

    lay-macros : (line : ℕ) (es : List Token) → Lays es → Lays (token.AllMacros line ∷ es)
    lay-macros line es next =
        let e : Token = token.AllMacros line in
        let first : (at : At) → AreOnLine texts false es → P (row_of [] (own_items e at es) (e ∷ es)) (own_items e at es)
        = λ at on. of_use _ _ es _ _ _ (OfMacros line) (of_mark _ _ _ (next.closed (after e at) refl on)) in
        lay-solid _ es refl refl first
        (λ items own at o. close items _ own _ at _ _ o (or_right _ _ refl) (first at o.later))

    lays : (es : List Token) → Lays es
    lays [] = record {
      closed = λ at is on. at-end at;
      within = λ items own at o.
          simp append-nil at (close items [] own _ at [] [] o (meets-end items [] own at [] o refl)
          (at-end at));
    }
    lays (token.White ∷ es) = lay-white es (lays es)
    lays (token.LineEnd line ∷ es) = lay-end line es (lays es)
    lays (token.UseOf line occurrence ∷ es) = lay-use line occurrence es (lays es)
    lays (token.AllMacros line ∷ es) = lay-macros line es (lays es)
    lays (e ∷ es) =
        lay-item e es refl refl refl (λ items on. (on.0.taken, (on.0.back, on.1))) (λ items places. refl) (lays es)

    -- the items of a piece, if its tokens are on lines
    pub piece-lays : (line : ℕ) (es : List Token) → AreOnLine texts false (part_tokens texts es)
        → P (row_of [] (part_items lines line es) (part_tokens texts es)) (part_items lines line es)
    piece-lays line es on =
        rw (part_items-by_origin lines line es) ((lays (part_tokens texts es)).closed
        (record { before = None; white = false; turn = _; counted = origin_at lines line }) refl on)
