-- The tokens of a run are those of the words, signs, quoted texts and spaces that it consists of.
use Rattle.std.proofs.Common.{rules}
use Rattle.std.proofs.lemmas.Bool.Decides.{nat_tests}
use Rattle.std.proofs.Common.{◌≡◌, ◌<◌, ◌≤◌, ℕ, zero, suc, ◌+◌, Bool, true, false, ◌==◌, not, List, [], ◌∷◌}
use Rattle.std.proofs.Common.{◌++◌, length, take, drop, map, get_or, Option, Some, ◌⊎◌, slice_get, inl, inr, refl, ap}
use Rattle.std.proofs.Common.{sym, ◌∙◌, subst, arith, eq-or-lt_of_le, add-one}
use Rattle.std.specs.List.{prefix_len}
use Rattle.std.proofs.Math.Numerals.{one-add}
use Rattle.std.proofs.lemmas.Bool.{cond-false, true_from_ne_false, false_from_ne_true, ne_eqb, eqb-true}
use Rattle.std.proofs.lemmas.Bool.{eq-eqb, not-true}
use Rattle.std.proofs.lemmas.List.Sums.{prefix_len_passes}
use Rattle.tangle_files.specs.Bytes.{space}
use Rattle.tangle_lines.specs.Bytes.{double_quote}
use Rattle.tangle_text.specs.declared.regions.Region.{Region}
use Rattle.tangle_text.specs.declared.regions.Region.TheVariants as region
use Rattle.tangle_text.specs.declared.runs.RunPart.{RunPart}
use Rattle.tangle_text.specs.declared.spans.Span.{Span}
use Rattle.tangle_text.specs.Bytes.{apostrophe, is_word_byte, backslash}
use Rattle.tangle_text.specs.Text.{Cell, line_text, byte_at}
use Rattle.tangle_text.specs.Regions.{unit_of, quoted_unit, count_before}
use Rattle.tangle_text.specs.Runs.{is_quote, is_single, is_before_quote, quote_size, part_more, part_at, parts_of}
use Rattle.tangle_text.specs.Runs.{are_apart}
use Rattle.tangle_text.specs.Runs.{is_run_item, begins_item, goes_over, run_size}
use Rattle.tangle_text.proofs.ItemLemmas.{run-after}
use Rattle.tangle_text.proofs.PartLemmas.{part-fits, part-taken}
use Rattle.tangle_text.proofs.UnitLemmas.{counted, count-is}
use Rattle.tangle_text.proofs.WordLemmas.{word_more-plain}
use Rattle.tangle_lexer.specs.declared.modes.IncludeState.TheVariants as include
use Rattle.tangle_lexer.specs.declared.modes.LexerState.{LexerState}
use Rattle.tangle_lexer.specs.declared.tokens.SpanKind.TheVariants as span_kind
use Rattle.tangle_lexer.specs.declared.tokens.Token.TheVariants as token
use Rattle.tangle_lexer.specs.LinesOfC.{with_item}
use Rattle.tangle_lexer.specs.CText.{kind_by, kind_at}
use Rattle.tangle_lexer.specs.Simple.{is_c_text}
use Rattle.tangle_lexer.specs.declared.lexeme_kinds.LexemeKind.{LexemeKind}
use Rattle.tangle_lexer.specs.Lexemes.{lexeme_of, elsewhere}
use Rattle.tangle_lexer.specs.Quoted.{kind_in, one_if, cut_range, cut_tokens, quote_end, quoted_text}
use Rattle.tangle_lexer.specs.Runs.{part_token}
use Rattle.tangle_lexer.specs.Steps.{lexeme, c_lexeme, macro_lexeme, tokens_from, occurrences_from}
use Rattle.tangle_lexer.proofs.lemmas.StepLemmas.{tokens_from-step, occurrences_from-step}

-- the rest of a line

pub front-byte : (line column : ℕ) (bs : List ℕ) (rest : List Cell)
    → byte_at 0 (line_text line column bs ++ rest) ≡ slice_get bs 0
front-byte line column [] rest = refl
front-byte line column (b ∷ bs) rest = refl

-- quoted texts

module _ (r : Region) (close : ℕ) (units : (b next : Option ℕ) → unit_of r b next ≡ quoted_unit close b next)
    (last line start end : ℕ) (rest : List Cell) where
  -- `n` bytes are before the one that closes the text
  record Closes (escaped : Bool) (column : ℕ) (bs : List ℕ) (n : ℕ) : Type 0 where
    ends : get_or bs n 0 ≡ close
    closes : byte_at 0 (drop n (line_text line column bs ++ rest)) ≡ Some close
    count : counted r (one_if escaped) (line_text line column bs ++ rest) ≡ n
    tokens : cut_tokens (quote_end r close last) r (one_if escaped) start (line_text line column bs ++ rest)
        ≡ cut_range r line start end

  closes-at : (escaped : Bool) (column : ℕ) (bs : List ℕ) (n : ℕ)
      → quote_size close escaped bs ≡ suc n → column + suc n ≡ end → Closes escaped column bs n
  closes-at escaped column [] n h e = absurd (omega arith)
  closes-at true column (b ∷ bs) zero h e = absurd (grind (arith, nat_tests))
  closes-at true column (b ∷ bs) (suc n) h e =
      let more = closes-at false (column + 1) bs n (grind (arith, nat_tests)) (omega arith) in
      record { ends = more.ends; closes = more.closes; count = omega (arith, more.count); tokens = more.tokens }
  closes-at false column (b ∷ bs) zero h e =
      let is : b ≡ close = grind (arith, nat_tests) in
      let unit = units (Some b) (byte_at 0 (line_text line (column + 1) bs ++ rest)) in
      grind (arith, nat_tests)
  closes-at false column (b ∷ []) (suc n) h e = absurd (grind (arith, nat_tests))
  closes-at false column (b ∷ c ∷ bs) (suc n) h e =
      let more = closes-at (b == backslash) (column + 1) (c ∷ bs) n (grind (arith, nat_tests)) (omega arith) in
      let unit = units (Some b) (Some c) in
      grind (arith, nat_tests)

-- the region of a text that begins and ends with this byte
abbrev IsText : ℕ → Type 0
IsText b =
    (r : Region) × ((c next : Option ℕ) → unit_of r c next ≡ quoted_unit b c next) × (kind_in r ≡ span_kind.Quoted)
    × ((next : Option ℕ) (s : LexerState) (text : List Cell) →
    let kind = kind_by include.Elsewhere (Some b) next in macro_lexeme kind s text ≡ c_lexeme kind s text)
    × ((next : Option ℕ) (s : LexerState) (text : List Cell)
    → c_lexeme (kind_by include.Elsewhere (Some b) next) s text ≡ quoted_text r b s text)

text-of : (b : ℕ) → is_quote b ≡ true → IsText b
text-of b h =
    let quote : (b ≡ double_quote) ⊎ (b ≡ apostrophe) = grind (arith, nat_tests) in
    elim quote [
      | inl e ↦ subst IsText (sym e) (region.DoubleQuote, (λ c d. refl), refl, (λ d s text. refl), λ d s text. refl)
      | inr e ↦ subst IsText (sym e) (region.Apostrophe, (λ c d. refl), refl, (λ d s text. refl), λ d s text. refl)
    ]

-- words

-- a quoted text is directly after these word bytes, however many of them were read
before-word : (bs : List ℕ) → is_before_quote (drop (prefix_len is_word_byte bs) bs) ≡ is_before_quote bs
before-word [] = refl
before-word (b ∷ bs) = grind (arith, nat_tests, one-add (prefix_len is_word_byte bs), before-word bs)

-- These parts may stand after a space, if an item is at the front, and after a word, if no quoted text follows it.
abbrev pub AreApart : List ℕ → List RunPart → Type 0
AreApart bs parts = are_apart (begins_item bs) (not (is_before_quote bs)) parts ≡ true

-- parts may stand after less
loosened : (s w t v : Bool) (parts : List RunPart) → are_apart s w parts ≡ true
    → (t ≡ true → s ≡ true) → (v ≡ true → w ≡ true) → are_apart t v parts ≡ true
loosened s w t v [] h k j = grind arith
loosened s w t v (x ∷ parts) h k j = grind arith

-- an item is no white space
item-dark : (line column : ℕ) (bs : List ℕ) (rest : List Cell)
    → begins_item bs ≡ true → count_before region.White (line_text line column bs ++ rest) ≡ 0
item-dark line column [] rest h = cc
item-dark line column (b ∷ bs) rest h = grind (arith, nat_tests, count-is)

-- an empty run is before no item
no-item : (bs : List ℕ) → run_size 0 bs ≡ 0 → begins_item bs ≡ false
no-item [] none = refl
no-item (b ∷ bs) none =
    false_from_ne_true (is_run_item b bs) (search (rules, ne_eqb, cond-false))

some-size : (m : ℕ) → not (m == 0) ≡ true → (n : ℕ) × (m ≡ suc n)
some-size zero h = cc
some-size (suc n) h = (n, refl)

-- a lexeme of a kind that is the same in C parts and in macros
lexeme-here : (s : LexerState) (text : List Cell) (kind : LexemeKind) → is_c_text s.mode ≡ true
    → macro_lexeme kind s text ≡ c_lexeme kind s text → kind_at s.line.include text ≡ kind
    → lexeme s text ≡ c_lexeme kind s text
unfolding lexeme
lexeme-here s text kind m same h = grind (arith, nat_tests)

-- lexemes of C text where no #include was begun, after an item of a line
module _ (s : LexerState) (c_text : is_c_text s.mode ≡ true)
    (stays : (b : Bool) → with_item b (elsewhere s).line.line ≡ (elsewhere s).line.line) (line : ℕ) (rest : List Cell) where
  abbrev here : LexerState
  here = elsewhere s

  -- the text of the line from a column on, where these are its bytes
  abbrev at : ℕ → List ℕ → List Cell
  at column bs = line_text line column bs ++ rest

  -- the lexeme at the front is a part of a run
  record IsPart (column b : ℕ) (bs : List ℕ) : Type 0 where
    lexeme : lexeme here (at column (b ∷ bs))
        ≡ lexeme_of (part_token (part_at line column (1 + part_more b bs) b) ∷ []) (part_more b bs) here
    apart : (parts : List RunPart) → AreApart (drop (part_more b bs) bs) parts
        → AreApart (b ∷ bs) (part_at line column (1 + part_more b bs) b ∷ parts)
    ends : (get_or (b ∷ bs) (part_more b bs) 0 == backslash) ≡ false

  word-part : (column b : ℕ) (bs : List ℕ) → is_word_byte b ≡ true → not (is_before_quote bs) ≡ true
      → (b == space) ≡ false → IsPart column b bs
  word-part column b bs word apart blank =
      search (rules, prefix_len_passes, word_more-plain, not-true, lexeme-here, nat_tests, loosened, before-word)

  space-part : (column : ℕ) (bs : List ℕ) → begins_item bs ≡ true → IsPart column space bs
  space-part column bs begins = search (rules, lexeme-here, item-dark, loosened)

  quoted-part : (column b n : ℕ) (bs : List ℕ) → (b == space) ≡ false → is_word_byte b ≡ false → is_quote b ≡ true
      → quote_size b false bs ≡ suc n → IsPart column b bs
  quoted-part column b n bs blank word quote size =
      let (r, units, kind, same, opens) = text-of b quote in
      let end : ℕ = column + (1 + suc n) in
      let text = closes-at r b units here.last_line line column end rest false (column + 1) bs n size (omega arith) in
      let inside : count_before r (at (column + 1) bs) ≡ n = count-is r (at (column + 1) bs) ∙ text.count in
      let span : Span = record { line = line; start = column; end = end } in
      let cut : cut_range r line column end ≡ token.Span (kind_in r) span ∷ [] = grind (arith, nat_tests) in
      record {
        lexeme = lexeme-here here (at column (b ∷ bs)) _ c_text
            (same (byte_at 0 (at (column + 1) bs)) here (at column (b ∷ bs))) refl
            ∙ (opens (byte_at 0 (at (column + 1) bs)) here (at column (b ∷ bs))
            ∙ rw (inside, text.closes, text.tokens, cut, kind, eq-eqb b b refl, add-one n, stays false)
            (rw (blank, word, quote, size) refl));
        apart = λ parts more. rw (blank, word, quote) (loosened _ _ false false parts more (λ e. cc) (λ e. cc));
        ends = rw (word, quote, size, text.ends) (grind (arith, nat_tests));
      }

  sign-part : (column b : ℕ) (bs : List ℕ) → (b == space) ≡ false → is_word_byte b ≡ false → is_quote b ≡ false
      → is_single b bs ≡ true → IsPart column b bs
  sign-part column b bs blank word quote single =
      search (rules, front-byte, nat_tests, lexeme-here, loosened)

  is-part : (column b : ℕ) (bs : List ℕ) → goes_over b bs ≡ true → IsPart column b bs
  is-part column b bs h = by (b == space) (is_word_byte b) (is_quote b) refl refl refl
    where
      by : (s w q : Bool) → (b == space) ≡ s → is_word_byte b ≡ w → is_quote b ≡ q → IsPart column b bs
      by true w q blank word quote =
          subst (λ x. IsPart column x bs) (sym (eqb-true b space blank)) (space-part column bs (rw blank at h))
      by false true q blank word quote = word-part column b bs word (rw (blank, word) at h) blank
      by false false true blank word quote =
          let size = some-size (quote_size b false bs) (grind arith) in quoted-part column b size.0 bs blank word quote size.1
      by false false false blank word quote = sign-part column b bs blank word quote (grind arith)

  -- `n` bytes are those of a run, and the first `k` of them belong to an earlier part
  pub record Goes (column k n : ℕ) (bs : List ℕ) : Type 0 where
    pub tokens : tokens_from here (drop k (at column bs))
        ≡ map part_token (parts_of line column k (take n bs)) ++ tokens_from here (drop n (at column bs))
    pub occurrences : occurrences_from here (drop k (at column bs)) ≡ occurrences_from here (drop n (at column bs))
    pub apart : AreApart (drop k bs) (parts_of line column k (take n bs))
    pub ends : (front : ℕ) → k < n → (get_or (front ∷ bs) n 0 == backslash) ≡ false

  pub run-goes : (column k n : ℕ) (bs : List ℕ) → k ≤ length bs → n ≡ run_size k bs → Goes column k n bs
  run-goes column zero zero bs fits is =
      let none = no-item bs (sym is) in
      record { tokens = refl; occurrences = refl; apart = ap not none; ends = λ front h. absurd (omega arith) }
  run-goes column zero (suc n) [] fits is = absurd (omega arith)
  run-goes column zero (suc n) (b ∷ bs) fits is =
      let over = true_from_ne_false (goes_over b bs) (λ e. absurd (omega (arith, rw e at is))) in
      let part = is-part column b bs over in
      let k = part_more b bs in
      let after = run-after k bs (part-fits b bs) in
      let more = run-goes (column + 1) k n bs (part-fits b bs) (omega (arith, rw over at is)) in
      let within : k ≤ n = omega (arith, rw over at is) in
      let first : part_more b (take n bs) ≡ k = part-taken b n bs within in
      let text = at column (b ∷ bs) in
      record {
        tokens = tokens_from-step here text (omega arith) ∙ rw (part.lexeme, first, more.tokens) refl;
        occurrences = occurrences_from-step here text (omega arith) ∙ rw part.lexeme more.occurrences;
        apart = rw first (part.apart _ more.apart);
        ends = λ front less.
            elim (eq-or-lt_of_le within) [ inl e ↦ rw (← e) part.ends | inr longer ↦ more.ends b longer ];
      }
  run-goes column (suc k) n [] fits is = absurd (omega arith)
  run-goes column (suc k) zero (b ∷ bs) fits is = absurd (omega arith)
  run-goes column (suc k) (suc n) (b ∷ bs) fits is =
      let more = run-goes (column + 1) k n bs (omega arith) (omega arith) in
      search (rules, more.ends)
