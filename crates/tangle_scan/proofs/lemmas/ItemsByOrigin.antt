-- Rules 4 and 5 in one pass over the tokens.
use Rattle.std.proofs.Common.{rules}
use Rattle.std.proofs.lemmas.Bool.Decides.{nat_tests}
use Rattle.std.proofs.Common.{arith}
use Rattle.std.proofs.Common.{◌≡◌, ℕ, ◌+◌, nat_le, length, Bool, true, false, ◌&&◌, ◌||◌, if◌then◌else◌}
use Rattle.std.proofs.Common.{Option, Some, None, is_some, List, [], ◌∷◌, ◌++◌, refl}
use Rattle.tangle_lines.specs.declared.origin.Origin.{Origin}
use Rattle.tangle_lexer.specs.declared.tokens.Token.{Token}
use Rattle.tangle_lexer.specs.declared.tokens.Token.TheVariants as token
use Rattle.tangle_lexer.specs.declared.tokens.SpanKind.TheVariants as span_kind
use Rattle.tangle_lines.specs.Reading.{SourceLine, origin_at}
use Rattle.tangle_scan.specs.declared.items.Item.{Item}
use Rattle.tangle_scan.specs.declared.items.Item.TheVariants as item
use Rattle.tangle_scan.specs.Rules.{texts_of, is_continued, blanks, next_line, same_origin}
use Rattle.tangle_scan.specs.Rules.{with_all_marks, with_needed_marks, part_tokens, part_items}
use Rattle.tangle_scan.specs.Directives.{is_turn, is_turn_word, first_word}
use Rattle.tangle_scan.specs.declared.turns.Turn.{Turn}
use Rattle.tangle_scan.specs.declared.turns.Turn.TheVariants as turn
use Rattle.tangle_scan.specs.LineTruth.{counted_after_line_end}
use Rattle.tangle_scan.specs.Passes.{line_item, items_by_origin}
use Rattle.tangle_scan.specs.Passes.{turn_after_item, is_number_sign, is_turn_item, is_whole}
use Rattle.tangle_scan.specs.Rules.{is_front_gap}

-- how much of a turn is on a line of C with these items

abbrev pub is_gap_item : Item → Bool
is_gap_item item.Blank = true
is_gap_item item.LineEnd = true
is_gap_item x = false

module _ (texts : List (List ℕ)) where
  abbrev after_sign : List Item → Turn
  after_sign [] = turn.NumberSign
  after_sign (x ∷ xs) =
      if is_gap_item x then after_sign xs else if is_turn_item texts x then turn.Whole else turn.Other

  abbrev pub turn_of : List Item → Turn
  turn_of [] = turn.NoItem
  turn_of (x ∷ xs) =
      if is_gap_item x then turn_of xs else if is_number_sign texts x then after_sign xs else turn.Other

  abbrev step : Turn → Item → Turn
  step at x = if is_gap_item x then at else turn_after_item texts at (Some x)

  after_sign-snoc : (xs : List Item) (x : Item) → after_sign (xs ++ x ∷ []) ≡ step (after_sign xs) x
  after_sign-snoc [] x = grind arith
  after_sign-snoc (y ∷ ys) x = grind (arith, after_sign-snoc ys x)

  pub turn-snoc : (xs : List Item) (x : Item) → turn_of (xs ++ x ∷ []) ≡ step (turn_of xs) x
  turn-snoc [] x = grind arith
  turn-snoc (y ∷ ys) x = grind (arith, turn-snoc ys x, after_sign-snoc ys x)

  word-is : (xs : List Item) → is_turn_word (first_word texts xs) ≡ is_whole (after_sign xs)
  word-is [] = refl
  word-is (x ∷ xs) = grind (arith, word-is xs)

  pub turn-is : (xs : List Item) → is_turn texts xs ≡ is_whole (turn_of xs)
  turn-is [] = refl
  turn-is (x ∷ xs) = grind (arith, turn-is xs, word-is xs)

module _ (lines : List SourceLine) where
  abbrev texts : List (List ℕ)
  texts = texts_of lines

  -- the items that rules 4 and 5 give for these tokens
  abbrev made : Option Token → List Item → Origin → List Token → List Item
  made before line counted es = with_needed_marks texts line counted (with_all_marks lines before es)

  -- a line end with no mark after it stays
  line_end-alone : (before : Option Token) (line : List Item) (counted : Origin) (es : List Token)
      → with_needed_marks texts line counted (item.LineEnd ∷ with_all_marks lines before es)
      ≡ item.LineEnd ∷ made before (line ++ item.LineEnd ∷ []) (next_line counted) es
  line_end-alone before line counted [] = refl
  line_end-alone before line counted (token.Span span_kind.Word s ∷ es) = refl
  line_end-alone before line counted (e ∷ es) = cc (line_end-alone (Some e) line counted es)

  -- the items of the line of C after a line end
  abbrev line_after : Bool → List Item → List Item
  line_after stays line = if stays then line ++ item.LineEnd ∷ [] else []

  made-line_end : (before : Option Token) (line : List Item) (counted : Origin) (number : ℕ) (es : List Token) →
      let continued : Bool = is_continued texts before in
      made before line counted (token.LineEnd number ∷ es)
      ≡ line_item lines continued (is_turn texts line) counted number
      ∷ made (Some (token.LineEnd number)) (line_after (continued || nat_le (length lines) (number + 1)) line)
      (counted_after_line_end lines continued counted number) es
  made-line_end before line counted number es =
      by (is_continued texts before) (nat_le (length lines) (number + 1)) (is_turn texts line)
      (same_origin (origin_at lines (number + 1)) (next_line counted)) refl refl
    where
      next : Origin
      next = origin_at lines (number + 1)

      rest : List Item
      rest = with_all_marks lines (Some (token.LineEnd number)) es

      by : (continued last turns same : Bool) → is_turn texts line ≡ turns → same_origin next (next_line counted) ≡ same →
          with_needed_marks texts line counted
          (item.LineEnd ∷ ((if continued || last then [] else item.LineMark next ∷ []) ++ rest))
          ≡ (if continued || (if turns then last else (last || same)) then item.LineEnd else item.LineMark next)
          ∷ with_needed_marks texts (line_after (continued || last) line)
          (if continued || (last || same) then next_line counted else next) rest
      by true last turns same e is = search (rules, line_end-alone)
      by false true turns same e is = search (rules, line_end-alone)
      by false false turns same e is = grind (arith, nat_tests)

  -- what is made after this token, whatever is before it
  abbrev IsMade : Token → List Token → Type 0
  IsMade e rest =
      (line : List Item) (at : Turn) (counted : Origin) → turn_of texts line ≡ at
      → made (Some e) line counted rest ≡ items_by_origin lines (Some e) at counted rest

  -- an item, with a blank before it or not
  made-blank : (blank : Bool) (e : Token) (left before : Option Token) (line : List Item) (at : Turn)
      (counted : Origin) (rest : List Token) → is_front_gap e ≡ false → turn_of texts line ≡ at → IsMade e rest →
      let tokens : List Token = (if blank then token.White ∷ [] else []) ++ e ∷ rest in
      made left line counted tokens ≡ items_by_origin lines before at counted tokens
  made-blank x e left before line at counted rest solid turns next = search (rules, turn-snoc)

  -- Rule 3 leaves no white space before a line end, so the token
  -- directly before a line end is the last one on the line.
  made-blanks : (left before : Option Token) (line : List Item) (at : Turn) (white : Bool) (counted : Origin)
      (es : List Token) → is_continued texts left ≡ is_continued texts before → turn_of texts line ≡ at
      → made left line counted (blanks texts before white es)
      ≡ items_by_origin lines before at counted (blanks texts before white es)
  made-blanks left before line at white counted [] alike turns = grind (arith, nat_tests)
  made-blanks left before line at white counted (token.White ∷ es) alike turns =
      made-blanks left before line at true counted es alike turns
  made-blanks left before line at white counted (token.LineEnd number ∷ es) alike turns =
      let next = λ (l b : Option Token) (xs : List Item) (t : Turn) (c : Origin). made-blanks l b xs t false c es in
      grind (arith, nat_tests, made-line_end left line counted number, turn-is texts line, turn-snoc texts, next)
  made-blanks left before line at white counted (e ∷ es) alike turns =
      made-blank (is_some before && white) e left before line at counted (blanks texts (Some e) false es) refl turns
      (λ line at counted turns. made-blanks (Some e) (Some e) line at false counted es refl turns)

  -- rules 4 and 5, one after the other, give the same items of a C part as the one pass
  pub part_items-by_origin : (line : ℕ) (es : List Token)
      → part_items lines line es
      ≡ items_by_origin lines None turn.NoItem (origin_at lines line) (blanks texts None false (part_tokens texts es))
  part_items-by_origin line es = search (rules, made-blanks)
