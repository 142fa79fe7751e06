-- The bytes of spans are those of the cells of a text, of which none is a line feed.
use Rattle.std.proofs.Common.{rules, ◌≡◌, ℕ, zero, suc, ◌+◌, ◌-◌, ◌<◌, ◌≤◌, true, false, List, []}
use Rattle.std.proofs.Common.{◌∷◌, ◌++◌}
use Rattle.std.proofs.Common.{Option, Some, None, get_or, take, drop, drop-cons, get_or-drop, take-suc, refl, ap, sym, arith}
use Rattle.std.proofs.Common.{subst}
use Rattle.std.proofs.Common.{length, length-drop}
use Rattle.std.proofs.lemmas.List.{length-take-le}
use Rattle.std.specs.Prelude.{◌==◌}
use Rattle.tangle_lines.specs.Reading.{SourceLine}
use Rattle.tangle_text.specs.Bytes.{holds}
use Rattle.tangle_text.specs.Text.{Cell, byte_at, bytes_by, line_bytes, texts_of}
use Rattle.tangle_lexer.proofs.laws.Points.{Point, point_at, IsByte, HoldsBytes, IsTextAt, source_byte, source-is, text-next, text-within}
use Rattle.c_tokens.specs.Bytes.{line_feed}
use Rattle.c_tokens.specs.Borders.{has_bytes}
use Rattle.tangle_c_tokens.specs.LineFeeds.{TextHasNoLineFeed, SourceLinesHaveNoLineFeed}
use Rattle.tangle_c_tokens.proofs.ListLemmas.{all-get, all-map}
use Rattle.std.proofs.lemmas.Bool.Decides.{nat_tests}

-- no byte of the lines is a line feed
abbrev pub AreClear : List (List ℕ) → Type 0
AreClear texts = (line column : ℕ) → (source_byte texts line column == line_feed) ≡ false

pub lines-clear : (lines : List SourceLine) → SourceLinesHaveNoLineFeed lines → AreClear (texts_of lines)
lines-clear lines none line =
    at (get_or (texts_of lines) line [])
    (all-get TextHasNoLineFeed (texts_of lines) line [] refl (all-map TextHasNoLineFeed (λ l. l.bytes) lines none))
  where
    at : (bs : List ℕ) → TextHasNoLineFeed bs → (column : ℕ) → (get_or bs column 0 == line_feed) ≡ false
    at [] h column = refl
    at (b ∷ bs) h column = grind (arith, nat_tests, at bs)

module _ (texts : List (List ℕ)) where
  -- the bytes of a line between two columns
  abbrev pub range : ℕ → ℕ → ℕ → List ℕ
  range line start end = take (end - start) (drop start (get_or texts line []))

  pub range-none : (line column : ℕ) → range line column column ≡ []
  range-none line column = grind (arith, nat_tests)

  pub range-some : (line start end : ℕ) → start < end → end ≤ length (get_or texts line [])
      → has_bytes (range line start end) ≡ true
  range-some line start end some within =
      let bytes = get_or texts line [] in
      grind (arith, nat_tests, length-take-le (end - start) (drop start bytes), length-drop start bytes)

module _ (texts : List (List ℕ)) (clear : AreClear texts) where
  no-feed : (at : Point) (text : List Cell) → IsTextAt texts at text → holds line_feed (byte_at 0 text) ≡ false
  no-feed at [] is = refl
  no-feed at (c ∷ cs) is = grind (arith, nat_tests, source-is texts at c, clear c.line c.column)

  -- a byte of a text, and the text after it
  pub record IsByteAt (c : Cell) (cs : List Cell) (b : ℕ) : Type 0 where
    pub next : IsTextAt texts (point_at c.line (c.column + 1)) cs
    pub within : c.column + 1 ≤ length (get_or texts c.line [])
    pub bytes : drop c.column (get_or texts c.line []) ≡ b ∷ drop (c.column + 1) (get_or texts c.line [])
    pub first : source_byte texts c.line c.column ≡ b
    pub feed : (b == line_feed) ≡ false
    pub next_feed : holds line_feed (byte_at 0 cs) ≡ false

  pub byte-is : (at : Point) (c : Cell) (cs : List Cell) (b : ℕ) → c.byte ≡ Some b → IsTextAt texts at (c ∷ cs)
      → IsByteAt c cs b
  byte-is at c cs b e is =
      let next = text-next texts at c cs is (subst IsByte (sym e) tt) in
      let within = text-within texts (point_at c.line (c.column + 1)) cs next in
      let first : source_byte texts c.line c.column ≡ b = source-is texts at c b e is.0 in
      let bytes : drop c.column (get_or texts c.line [])
      ≡ b ∷ drop (c.column + 1) (get_or texts c.line []) =
      grind (arith, nat_tests, drop-cons (get_or texts c.line []) c.column 0) in
      let no_feed = no-feed (point_at c.line (c.column + 1)) cs next in
      search (rules, next, within, bytes, first, clear c.line c.column, no_feed)

  pub span-bytes : (n : ℕ) (at : Point) (text : List Cell) → IsTextAt texts at text → HoldsBytes n text
      → take n (drop at.column (get_or texts at.line [])) ≡ take n (line_bytes text)
  span-bytes zero at text is h = refl
  span-bytes (suc n) at [] is h = absurd h
  span-bytes (suc n) at (c ∷ cs) is h =
      by c.byte refl (λ next. span-bytes n (point_at c.line (c.column + 1)) cs next h.1)
    where
      by : (b : Option ℕ) → c.byte ≡ b
          → (IsTextAt texts (point_at c.line (c.column + 1)) cs
          → take n (drop (c.column + 1) (get_or texts c.line [])) ≡ take n (line_bytes cs))
          → take (suc n) (drop at.column (get_or texts at.line [])) ≡ take (suc n) (bytes_by b (line_bytes cs))
      by None e more = absurd (subst IsByte e h.0)
      by (Some b) e more =
          let here = byte-is at c cs b e is in
          rw (← is.0.line, ← is.0.column, here.bytes) (ap (λ t. b ∷ t) (more here.next))

  -- the bytes from a column on, up to a byte and with it
  pub range-byte : (c : Cell) (cs : List Cell) (b start : ℕ) → IsByteAt c cs b → start ≤ c.column
      → range texts c.line start (c.column + 1) ≡ range texts c.line start c.column ++ b ∷ []
  range-byte c cs b start is h =
      let line = get_or texts c.line [] in
      let n = c.column - start in
      let size : c.column + 1 - start ≡ suc n = omega arith in
      let at : start + n ≡ c.column = omega arith in
      let more = take-suc (drop start line) n 0 in
      grind (arith, length-drop start line, more, get_or-drop start line n 0, is)
