-- The ranges of quoted and verbatim texts are in order. `texts` are the bytes of the source lines.
use Rattle.std.proofs.lemmas.Bool.Decides.{nat_tests}
use Rattle.std.proofs.Common.{ℕ, ◌+◌, ◌<◌, ◌≤◌, ◌∙◌, List, [], ◌∷◌, ◌++◌, drop, length, get_or}
use Rattle.std.proofs.Common.{sym, arith, subst}
use Rattle.std.proofs.lemmas.List.{drop-drop}
use Rattle.tangle_lexer.specs.declared.tokens.Token.{Token}
use Rattle.tangle_lexer.specs.declared.modes.LexerState.{LexerState}
use Rattle.tangle_text.specs.declared.regions.Region.{Region}
use Rattle.tangle_text.specs.declared.regions.Region.TheVariants as region
use Rattle.tangle_text.specs.Bytes.{holds}
use Rattle.tangle_text.specs.Text.{Cell, byte_at}
use Rattle.tangle_text.specs.Regions.{count_before}
use Rattle.tangle_lexer.specs.Comments.{has_end_code, two_if}
use Rattle.tangle_lexer.specs.Quoted.{cut_range, cut_tokens}
use Rattle.tangle_lexer.specs.Quoted.{quote_end, one_if, quoted_text, verbatim_end}
use Rattle.tangle_lexer.specs.Quoted.{verbatim_tokens, verbatim_text}
use Rattle.tangle_lexer.proofs.laws.Points.{Point, point_at, IsByte, HoldsBytes, IsTextAt}
use Rattle.tangle_lexer.proofs.laws.Points.{text-next, text-after}
use Rattle.tangle_lexer.proofs.laws.TokenOrder.{IsBefore, AreInOrder, AreBefore, Precedes, faults-in_order, text-reaches, text-later}
use Rattle.tangle_lexer.proofs.laws.CutTexts.{IsCut, verbatim-cut, cut-by}
use Rattle.tangle_lexer.proofs.laws.WhiteOrder.{LexemeIsInOrder, after-end}

module _ (texts : List (List ℕ)) where
  -- tokens of a line that are in order from each point on that is not after this column
  abbrev AreFrom : (ℕ → Point → Type 0) → ℕ → ℕ → List Token → Type 0
  AreFrom P line column ts = (p : Point) → Precedes p (point_at line column) → AreInOrder texts P line p ts

  range-in_order : (r : Region) (line start end : ℕ) (P : ℕ → Point → Type 0) (ts : List Token) → start ≤ end
      → end ≤ length (get_or texts line []) → line < length texts
      → AreFrom P line end ts → AreFrom P line start (cut_range r line start end ++ ts)
  range-in_order r line start end P ts le inside real next p h =
      grind (arith, nat_tests, next p, next (point_at line end))

  -- a text that is cut; `ends` gives the tokens of its end, and `final` says on which line the text after it is
  cut-in_order : (r : Region) → IsCut r → (ends : ℕ → List Cell → List Token)
      → (final : List Cell → ℕ → Point → Type 0) → ((at : Point) (start : ℕ) (text : List Cell) → start ≤ at.column → IsTextAt texts at text
      → AreFrom (final text) at.line start (ends start text))
      → (at : Point) (start : ℕ) (text : List Cell) → start ≤ at.column → IsTextAt texts at text
      → AreFrom (final (drop (count_before r text) text)) at.line start (cut_tokens ends r 0 start text)
  cut-in_order r cut ends final stop =
      cut-by texts r cut ends Ordered stop (grind (arith, nat_tests)) (grind (arith, nat_tests, range-in_order))
      (λ at start c d cs ts n h is cell byte second other same next p k.
      rw (← is.line, ← cell.line) (next p (rw (cell.line, is.line) k)))
      (grind (arith, nat_tests, range-in_order))
    where
      Ordered : Point → ℕ → List Token → ℕ → List Cell → Type 0
      Ordered at start ts n text = AreFrom (final (drop n text)) at.line start ts

  -- quoted texts

  abbrev after-quote : ℕ → List Cell → List Cell
  after-quote close text = drop (one_if (holds close (byte_at 0 text))) text

  quote_end-in_order : (r : Region) (close last : ℕ) (at : Point) (start : ℕ) (text : List Cell)
      → start ≤ at.column → IsTextAt texts at text
      → AreFrom (IsBefore (after-quote close text)) at.line start (quote_end r close last start text)
  quote_end-in_order r close last at start x h is p k =
      grind (arith, nat_tests, text-reaches, text-next, range-in_order)

  pub quoted-in_order : (r : Region) → IsCut r → (close : ℕ) (s : LexerState) (at : Point) (c : Cell) (cs : List Cell)
      → IsTextAt texts at (c ∷ cs) → IsByte c.byte
      → LexemeIsInOrder texts at.line c cs (quoted_text r close s (c ∷ cs))
  quoted-in_order r cut close s at c cs is byte =
      let n : ℕ = count_before r cs in
      let last : ℕ = one_if (holds close (byte_at 0 (drop n cs))) in
      let tokens : List Token = (quoted_text r close s (c ∷ cs)).tokens in
      rw (← is.0.line) (subst (λ end. AreFrom (IsBefore end) c.line c.column tokens) (drop-drop last n cs)
      (cut-in_order r cut (quote_end r close s.last_line) (λ t. IsBefore (after-quote close t))
      (quote_end-in_order r close s.last_line) (point_at c.line (c.column + 1)) c.column cs (omega arith) (text-next texts at c cs is byte)))

  -- verbatim texts

  abbrev after-verbatim : List Cell → List Cell
  after-verbatim text = drop (two_if (has_end_code text)) text

  verbatim_end-in_order : (at : Point) (start : ℕ) (text : List Cell) → start ≤ at.column → IsTextAt texts at text
      → AreFrom (IsBefore (after-verbatim text)) at.line start (verbatim_end start text)
  verbatim_end-in_order at start x h is p k =
      grind (arith, nat_tests, range-in_order, faults-in_order, text-reaches, text-later texts 1 at)

  verbatim_tokens-in_order : (at : Point) (text : List Cell) → 0 < at.column → IsTextAt texts at text
      → AreFrom (IsBefore (after-verbatim (drop (count_before region.Verbatim text) text))) at.line at.column
      (verbatim_tokens text)
  verbatim_tokens-in_order at [] after_code is p h = absurd (omega arith)
  verbatim_tokens-in_order at (c ∷ cs) after_code is p h =
      let next = cut-in_order region.Verbatim verbatim-cut verbatim_end (λ t. IsBefore (after-verbatim t))
      verbatim_end-in_order at c.column (c ∷ cs) (omega arith) is in
      grind (arith, is.0, next p, next (point_at c.line (c.column + 0)))

  pub verbatim_text-in_order : (s : LexerState) (at : Point) (c : Cell) (cs : List Cell)
      → IsTextAt texts at (c ∷ cs) → HoldsBytes 2 (c ∷ cs)
      → LexemeIsInOrder texts at.line c cs (verbatim_text s (c ∷ cs))
  verbatim_text-in_order s at c cs is h p k =
      let rest : List Cell = drop 1 cs in
      let n : ℕ = count_before region.Verbatim rest in
      subst (λ end. AreBefore texts end at.line p (verbatim_tokens rest))
      (sym (after-end n (two_if (has_end_code (drop n rest))) cs))
      (verbatim_tokens-in_order (point_at at.line (at.column + 2)) rest (omega arith)
      (text-after texts 2 at (c ∷ cs) is h) p
      (omega (arith, k.0, is.0.line), λ e. let le = k.1 (e ∙ sym is.0.line) in omega (arith, le, is.0.column)))
