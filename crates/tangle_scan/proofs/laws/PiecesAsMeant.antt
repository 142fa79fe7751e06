-- A C compiler reads the items of a piece as the author means them.
use Rattle.std.proofs.lemmas.Bool.{cases_Bool}
use Rattle.std.proofs.Common.{inl, inr}
use Rattle.std.proofs.Common.{rules}
use Rattle.std.proofs.lemmas.Bool.Decides.{nat_tests}
use Rattle.std.proofs.Common.{arith}
use Rattle.std.proofs.Common.{◌≡◌, ℕ, ◌+◌, Bool, true, false, ◌&&◌, if◌then◌else◌, List, [], ◌∷◌, ◌++◌, flat_map}
use Rattle.std.proofs.Common.{append_assoc, append-nil, Option, Some, None, is_some, refl, sym, subst}
use Rattle.std.proofs.lemmas.Slice.Eq.{bytes_eq-Decides}
use Rattle.std.proofs.lemmas.Bool.{and_parts}
use Rattle.std.proofs.Math.Bool.{and-false}
use Rattle.tangle_files.specs.Bytes.{line_feed}
use Rattle.tangle_text.specs.Bytes.{backslash}
use Rattle.tangle_lines.specs.declared.origin.Origin.{Origin}
use Rattle.tangle_lines.specs.Reading.{SourceLine, origin_at}
use Rattle.tangle_lexer.specs.declared.tokens.Token.{Token}
use Rattle.tangle_lexer.specs.declared.tokens.Token.TheVariants as token
use Rattle.tangle_scan.specs.declared.items.Item.{Item}
use Rattle.tangle_scan.specs.Rules.{is_open, texts_of, is_continued, ends_line}
use Rattle.tangle_lexer.specs.SpanBytes.{ends_in_backslash}
use Rattle.tangle_scan.specs.Rules.{is_front_gap, blanks, next_line, part_tokens, part_items}
use Rattle.tangle_scan.specs.Passes.{turn_after, turn_after_line_end, is_unmarked, is_whole}
use Rattle.tangle_scan.specs.declared.turns.Turn.{Turn}
use Rattle.tangle_scan.specs.declared.turns.Turn.TheVariants as turn
use Rattle.tangle_scan.specs.Passes.{counted_after_token, items_by_origin}
use Rattle.tangle_scan.specs.ItemBytes.{piece_item_bytes}
use Rattle.tangle_scan.specs.ReadAsMeant.{Gap, Space, LineFeed, TakenOut, Mark, gap_bytes, as_read, is_empty}
use Rattle.tangle_scan.specs.ReadAsMeant.{IsReadAs, without_spaces, is_backslash, read_tokens, needs_white, token_bytes}
use Rattle.tangle_scan.specs.ReadAsMeant.{AreReadAsMeant, EndsPiece, use_bytes, IsPieceReadAsMeant}
use Rattle.tangle_scan.proofs.lemmas.ItemsByOrigin.{part_items-by_origin}
use Rattle.tangle_scan.proofs.lemmas.RuleLemmas.{blanks-item}
use Rattle.tangle_scan.proofs.laws.GapReading.{some-append, read-append, spaces-append}
use Rattle.tangle_scan.proofs.laws.GapReading.{bytes-append, blank_before}

module _ (lines : List SourceLine) (used : ℕ → List ℕ) (mark : Origin → List ℕ) (macros : List ℕ) where
  abbrev texts : List (List ℕ)
  texts = texts_of lines

  abbrev item_bytes : Item → List ℕ
  item_bytes x = piece_item_bytes texts used mark macros x

  -- The bytes that rules 3 to 5 make of tokens. The arguments before the tokens are those of the rules.
  abbrev text_from : Option Token → Bool → Turn → Origin → List Token → List ℕ
  text_from before white at counted es =
      flat_map item_bytes (items_by_origin lines before at counted (blanks texts before white es))

  abbrev bytes_of : Token → List ℕ
  bytes_of e = token_bytes texts (use_bytes lines used mark macros) e

  abbrev blank_bytes : Bool → List ℕ
  blank_bytes blank = gap_bytes mark (blank_before blank [])

  -- the bytes of an item, and of a blank before it
  text-item : (before : Option Token) (white : Bool) (at : Turn) (counted : Origin) (e : Token) (es : List Token)
      → is_front_gap e ≡ false
      → text_from before white at counted (e ∷ es)
      ≡ blank_bytes (is_some before && white)
      ++ (bytes_of e ++ text_from (Some e) false (turn_after texts at e) (counted_after_token lines counted e) es)
  text-item before white at counted e es item = grind (arith, nat_tests, blanks-item, append_assoc)

  -- the tokens that the compiler reads, from an item on
  read-item : (continued : Bool) (e : Token) (es : List Token) → is_front_gap e ≡ false →
      let continues : Bool = ends_in_backslash texts e && ends_line es in
      read_tokens texts continued (e ∷ es)
      ≡ (if continues && is_backslash texts e then [] else e ∷ []) ++ read_tokens texts continues es
  read-item continued x es item = grind arith

  -- what the compiler reads since the last item
  abbrev read_since : Option Token → List Gap → List ℕ
  read_since last gap = as_read (is_continued texts last) gap

  -- what is read after the last item is enough where something keeps the next one apart
  abbrev Serves : List ℕ → Option Token → List ℕ → Type 0
  Serves meant last read = (f : Token) → needs_white texts false meant last f ≡ true → is_empty read ≡ false

  -- The compiler reads the gap since the last item as meant, with the blank that is before the next item if there is
  -- white space. `before`: the token before the white space, if there is one on the line.
  record IsGap (meant : List ℕ) (white : Bool) (last before : Option Token) (gap : List Gap) : Type 0 where
    line_ends : without_spaces (read_since last gap) ≡ without_spaces meant
    together : is_empty meant ≡ true → (is_empty (read_since last gap) ≡ true) × (white ≡ false)
    apart : (is_some before && white) ≡ false → Serves meant last (read_since last gap)
    front : is_some before ≡ false → (all : List ℕ) → Serves all last (read_since last gap)
    ended : is_continued texts before ≡ false → (is_continued texts last && is_empty gap) ≡ false
    closing : is_empty (read_since last gap) ≡ true → is_open texts before ≡ false
        → (gap ≡ []) × (is_open texts last ≡ false)

  -- the gap directly after an item, and at the front of a piece
  no-gap : (last : Option Token) → IsGap [] false last last []
  no-gap last = grind (arith, nat_tests)

  -- the compiler reads the gap with the blank as meant, and after that perhaps what is taken out
  blanked : (meant : List ℕ) (white : Bool) (last before : Option Token) (gap more : List Gap)
      → IsGap meant white last before gap → ((after : Bool) → as_read after more ≡ []) → (f : Token)
      → IsReadAs meant (read_since last (gap ++ blank_before (is_some before && white) more))
      (needs_white texts false meant last f)
  blanked meant white last before gap more is none f = search (rules, read-append, spaces-append)

  -- The items of the tokens that follow are read as meant.

  abbrev AreRead : List ℕ → Option Token → List Token → List ℕ → Type 0
  AreRead meant last es bytes =
      AreReadAsMeant texts mark (use_bytes lines used mark macros) line_feed (EndsPiece texts mark)
      false meant last es bytes

  -- the tokens that follow are read as meant, unless they are at the end of a line after a backslash
  abbrev ReadsPlain : List Token → Type 0
  ReadsPlain es = (meant : List ℕ) (white : Bool) (last before : Option Token) (at : Turn) (counted : Origin)
      (gap : List Gap) →
      IsGap meant white last before gap → (is_continued texts before && ends_line es) ≡ false →
      AreRead meant last (read_tokens texts false es) (gap_bytes mark gap ++ text_from before white at counted es)

  -- The tokens that follow are read as meant after a backslash at the end of a continued line. `front` are the bytes
  -- since the last item, and `gap` is what they are with the line feed.
  abbrev ReadsContinued : List Token → Type 0
  ReadsContinued es =
      (meant : List ℕ) (white : Bool) (last before : Option Token) (at : Turn) (counted : Origin) (front : List ℕ)
      (gap : List Gap)
      → gap_bytes mark gap ≡ front ++ line_feed ∷ []
      → ((line : ℕ) → IsGap meant false last (Some (token.LineEnd line)) gap)
      → is_continued texts before ≡ true → ends_line es ≡ true →
      AreRead meant last (read_tokens texts true es) (front ++ text_from before white at counted es)

  record PartIsRead (es : List Token) : Type 0 where
    plain : ReadsPlain es
    continued : ReadsContinued es

  plain-end : ReadsPlain []
  plain-end meant white last before at counted gap is continued =
      let all = read-append (is_continued texts last) gap (Space ∷ []) in
      elim (cases_Bool (is_open texts before)) [
        | inl t ↦ grind (arith, nat_tests, bytes-append mark gap, spaces-append, append-nil)
        | inr f ↦ rw f (search rules)
      ]

  plain-line_end : (line : ℕ) (es : List Token) → ReadsPlain es → ReadsPlain (token.LineEnd line ∷ es)
  plain-line_end line es next meant white last before turns counted gap is continued =
      by (is_unmarked lines (is_whole turns) counted line) refl
    where
      ends : is_continued texts before ≡ false
      ends = grind (arith, nat_tests)

      after_end : Turn
      after_end = turn_after_line_end lines false line turns

      -- the line end is a line feed or a mark
      after : (end : Gap) (counted : Origin) → as_read false (end ∷ []) ≡ line_feed ∷ [] →
          AreRead (meant ++ line_feed ∷ []) last (read_tokens texts false es)
          (gap_bytes mark gap ++ (gap_bytes mark (end ∷ []) ++ text_from None false after_end counted es))
      after end counted read =
          subst (AreRead (meant ++ line_feed ∷ []) last (read_tokens texts false es))
          (grind (arith, nat_tests, bytes-append, append_assoc))
          (next (meant ++ line_feed ∷ []) false last None after_end counted (gap ++ end ∷ [])
          (search (rules, read-append, some-append, spaces-append)) refl)

      by : (b : Bool) → is_unmarked lines (is_whole turns) counted line ≡ b → AreRead (meant ++ line_feed ∷ []) last
          (read_tokens texts false es) (gap_bytes mark gap ++ text_from before white turns counted (token.LineEnd line ∷ es))
      by true at = rw (ends, at) (after LineFeed _ refl)
      by false at =
          let origin = origin_at lines (line + 1) in
          rw (ends, at, sym (append-nil (mark origin))) (after (Mark origin) _ refl)

  continued-line_end : (line : ℕ) (es : List Token) → ReadsPlain es → ReadsContinued (token.LineEnd line ∷ es)
  continued-line_end line es next meant white last before at counted front gap bytes is continued ends =
      rw continued (subst (AreRead meant last (read_tokens texts false es)) (search (rules, append_assoc))
      (next meant false last (Some (token.LineEnd line)) at (next_line counted) gap (is line) refl))

  plain-item : (e : Token) (es : List Token) → is_front_gap e ≡ false → PartIsRead es → ReadsPlain (e ∷ es)
  plain-item e es item next meant white last before at counted gap is plain =
      rw (read-item false e es item, text-item before white at counted e es item)
      (by (ends_in_backslash texts e && ends_line es) refl (is_backslash texts e) refl)
    where
      blank : Bool
      blank = is_some before && white

      rest : List ℕ
      rest = text_from (Some e) false (turn_after texts at e) (counted_after_token lines counted e) es

      -- the case in which the compiler reads the item
      kept : (fs : List Token) → AreRead [] (Some e) fs rest →
          AreRead meant last (e ∷ fs) (gap_bytes mark gap ++ (blank_bytes blank ++ (bytes_of e ++ rest)))
      kept fs more =
          let here = blanked meant white last before gap [] is (λ after. refl) e in
          search (rules, here, bytes-append, append_assoc)

      -- the case in which the item is a backslash at the end of a continued line
      taken_out : ends_in_backslash texts e ≡ true → ends_line es ≡ true → bytes_of e ≡ backslash ∷ [] →
          AreRead meant last (read_tokens texts true es) (gap_bytes mark gap ++ (blank_bytes blank ++ (bytes_of e ++ rest)))
      taken_out is_last line_ends bytes =
          rw bytes
          (subst (AreRead meant last (read_tokens texts true es))
          (search (rules, append_assoc))
          (next.continued meant false last (Some e) (turn_after texts at e) (counted_after_token lines counted e)
          (gap_bytes mark gap ++ (blank_bytes blank ++ backslash ∷ [])) (gap ++ blank_before blank (TakenOut ∷ []))
          (search (rules, bytes-append, append_assoc))
          (λ line. let here = blanked meant white last before gap (TakenOut ∷ []) is (λ after. refl) in
          search (rules, here, here e, some-append, and-false)) is_last line_ends))

      by : (continues : Bool) → (ends_in_backslash texts e && ends_line es) ≡ continues → (is_sign : Bool)
          → is_backslash texts e ≡ is_sign
          → AreRead meant last ((if continues && is_sign then [] else e ∷ []) ++ read_tokens texts continues es)
          (gap_bytes mark gap ++ (blank_bytes blank ++ (bytes_of e ++ rest)))
      by true both true sign =
          let ends = and_parts _ _ both in
          taken_out ends.0 ends.1 (grind (arith, nat_tests, bytes_eq-Decides))
      by true both false other =
          let ends = and_parts _ _ both in
          kept (read_tokens texts true es)
          (next.continued [] false (Some e) (Some e) _ _ [] (LineFeed ∷ []) refl (λ line. search rules)
          ends.0 ends.1)
      by false both is_sign sign =
          kept (read_tokens texts false es)
          (next.plain [] false (Some e) (Some e) _ _ [] (no-gap (Some e)) both)

  reads : (es : List Token) → PartIsRead es
  reads [] =
      record { plain = plain-end; continued = λ meant white last before at counted front gap bytes is continued ends. absurd cc }
  reads (token.White ∷ es) =
      let next = reads es in
      record { plain = search (rules, spaces-append); continued = λ meant white. next.continued meant true }
  reads (token.LineEnd line ∷ es) = search (rules, plain-line_end, continued-line_end, reads es)
  reads (e ∷ es) = grind (arith, nat_tests, plain-item e es refl (reads es))

  -- the items of a whole piece are read as meant
  pub piece-as-meant : (line : ℕ) (tokens : List Token)
      → IsPieceReadAsMeant lines used mark macros (part_tokens texts tokens)
      (flat_map item_bytes (part_items lines line tokens))
  piece-as-meant line tokens =
      rw (part_items-by_origin lines line tokens)
      ((reads (part_tokens texts tokens)).plain [] false None None turn.NoItem (origin_at lines line) [] (no-gap None) refl)
