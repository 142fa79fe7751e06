-- Texts that are cut are items of the open line of C: quoted texts, and verbatim texts, which may end in a backslash.
use Rattle.std.proofs.Common.{◌≡◌, ℕ, zero, suc, ◌+◌, ◌-◌, ◌<◌, ◌≤◌, Bool, true, false, List, [], ◌∷◌, ◌++◌, ◌==◌, ◌⊎◌}
use Rattle.std.proofs.Common.{inl, inr, refl, ◌∙◌, arith, if◌then◌else◌}
use Rattle.std.proofs.lemmas.Bool.Decides.{nat_tests, eqb_tells}
use Rattle.tangle_faults.specs.declared.faults.FaultKind.TheVariants as fault
use Rattle.tangle_text.specs.declared.regions.Region.{Region}
use Rattle.tangle_text.specs.declared.regions.Region.TheVariants as region
use Rattle.std.proofs.Common.{rules}
use Rattle.tangle_text.specs.Bytes.{backslash, holds}
use Rattle.tangle_text.specs.Regions.{count_before}
use Rattle.tangle_text.specs.Text.{Cell}
use Rattle.tangle_lines.specs.Bytes.{at_sign}
use Rattle.tangle_lexer.specs.declared.modes.AtLineEnd.{AtLineEnd}
use Rattle.tangle_lexer.specs.declared.modes.AtLineEnd.TheVariants.{Ends, Continued}
use Rattle.tangle_lexer.specs.declared.modes.LineOfC.{LineOfC}
use Rattle.tangle_lexer.specs.declared.tokens.Token.{Token}
use Rattle.tangle_lexer.specs.declared.tokens.Token.TheVariants as token
use Rattle.tangle_lexer.specs.LinesOfC.{with_item}
use Rattle.tangle_faults.specs.declared.faults.FaultKind.{FaultKind}
use Rattle.std.proofs.Common.{append-nil}
use Rattle.std.proofs.lemmas.Bool.{cases_Bool, or_parts}
use Rattle.std.specs.List.{list_any}
use Rattle.tangle_lexer.specs.declared.modes.LexerState.{LexerState}
use Rattle.tangle_lexer.specs.Lexemes.{fault_if}
use Rattle.tangle_lexer.specs.LinesOfParts.{is_use_fault}
use Rattle.tangle_lexer.specs.Quoted.{cut_range, cut_tokens, quote_end, quoted_text}
use Rattle.tangle_lexer.proofs.lemmas.PlainTokens.{HasNone, is_not_text}
use Rattle.tangle_lexer.proofs.lemmas.PlainLexemes.{quoted-text}
use Rattle.tangle_lexer.proofs.lines.OpenLines.{kind_after, end_after}
use Rattle.tangle_lexer.proofs.laws.CutTexts.{IsCut, cut-by}
use Rattle.tangle_lexer.proofs.laws.Points.{Point, point_at, source_byte, IsByte, IsCellAt, IsTextAt, byte-test, text-next}
use Rattle.tangle_lexer.proofs.laws.RegionOrder.{other-byte}
use Rattle.tangle_lexer.proofs.lines.LineSteps.{Judgement, Steps, no-steps, steps-append, fault-step, item-step}

pub same-item : (l : LineOfC) → with_item false (with_item false l) ≡ with_item false l
same-item l = grind arith

abbrev pub end_by : Bool → AtLineEnd
end_by b = if b then Continued else Ends

-- what a line end after a range of a text does, by whether the last byte of the range is a backslash
abbrev pub ending : Region → Bool → AtLineEnd
ending region.Verbatim b = end_by b
ending _ b = Ends

-- the last of the first `n` cells is a backslash; `last`: the cell before them is one
abbrev pub last_cell : Bool → ℕ → List Cell → Bool
last_cell last zero text = last
last_cell last (suc n) [] = last
last_cell last (suc n) (c ∷ cs) = last_cell (holds backslash c.byte) n cs

module _ (texts : List (List ℕ)) where
  -- the line of C after tokens of a text, and what a line end after them does

  abbrev pub kind_past : LineOfC → List Token → LineOfC
  kind_past k [] = k
  kind_past k (t ∷ ts) = kind_past (kind_after texts t k) ts

  abbrev pub end_past : AtLineEnd → List Token → AtLineEnd
  end_past e [] = e
  end_past e (t ∷ ts) = end_past (end_after texts t e) ts

  pub text-steps : (R : Judgement texts) (ts : List Token) (l : LineOfC) (e : AtLineEnd) → HasNone is_not_text ts
      → Steps texts R l e ts (kind_past l ts) (end_past e ts)
  text-steps R [] l e none = no-steps texts R
  text-steps R (token.Span kind s ∷ ts) l e none =
      steps-append texts R (token.Span kind s ∷ []) ts (item-step texts R (token.Span kind s) refl) (text-steps R ts _ _ none)
  text-steps R (token.QuoteBreak n ∷ ts) l e none =
      steps-append texts R (token.QuoteBreak n ∷ []) ts (item-step texts R (token.QuoteBreak n) refl) (text-steps R ts _ _ none)
  text-steps R (token.Fault kind n ∷ ts) l e none =
      let both = or_parts (is_use_fault (token.Fault kind n)) (list_any is_not_text ts) none in
      steps-append texts R (token.Fault kind n ∷ []) ts (fault-step texts R kind n both.0) (text-steps R ts l e both.1)
  text-steps R (_ ∷ ts) l e none = cc

  -- the byte before the column after a cell
  after-byte-of : (at : Point) (c : Cell) → IsByte c.byte → IsCellAt texts at c
      → (source_byte texts c.line (c.column + 1 - 1) == backslash) ≡ holds backslash c.byte
  after-byte-of at c byte is = let e : c.column + 1 - 1 ≡ c.column = omega arith in rw e (byte-test texts backslash at c byte is)

  -- a range that is not empty is an item, which ends in a backslash or not
  range-past : (r : Region) (line start end : ℕ) (x : LineOfC) (e : AtLineEnd) (ts : List Token) → start < end
      → (kind_past x (cut_range r line start end ++ ts) ≡ kind_past (with_item false x) ts)
      × (end_past e (cut_range r line start end ++ ts)
      ≡ end_past (ending r (source_byte texts line (end - 1) == backslash)) ts)
  range-past region.Verbatim line start end x e ts h = grind (arith, nat_tests)
  range-past _ line start end x e ts h = grind (arith, nat_tests)

  -- The tokens from the start of a range on, before which the line is `x` and `e`, and `last` is whether a backslash
  -- is before the text. If the range is empty so far, then there is more, or there is an item before it.
  unfoldable pub IsCutFrom : Region → Point → ℕ → List Token → ℕ → List Cell → Type 0
  IsCutFrom r at start ts n text =
      (x : LineOfC) (e : AtLineEnd) (last : Bool)
      → (start < at.column → (source_byte texts at.line (at.column - 1) == backslash) ≡ last)
      → (start ≡ at.column → (0 < n) ⊎ ((with_item false x ≡ x) × (e ≡ ending r last)))
      → (kind_past x ts ≡ with_item false x) × (end_past e ts ≡ ending r (last_cell last n text))

  -- the range before a cell that ends the text, and a fault
  pub stop-past : (r : Region) (at : Point) (start : ℕ) (c : Cell) (cs : List Cell) (b : Bool) (kind : FaultKind)
      → start ≤ at.column → IsCellAt texts at c
      → IsCutFrom r at start (cut_range r c.line start c.column ++ fault_if b kind c.line) 0 (c ∷ cs)
  unfolding IsCutFrom
  stop-past r at start c cs b kind h is x e last back done =
      elim (eqb_tells start at.column) [
        | inl all ↦ grind (arith, nat_tests, done, is.column)
        | inr some ↦
            let first = range-past r c.line start c.column x e (fault_if b kind c.line) (omega (arith, is.column)) in
            let byte = rw (← is.line, ← is.column) at back in
            grind (arith, first, byte)
      ]

  -- a text that is cut
  pub cut-past : (r : Region) → IsCut r → (ends : ℕ → List Cell → List Token)
      → ((at : Point) (start : ℕ) (text : List Cell) → start ≤ at.column → IsTextAt texts at text
      → IsCutFrom r at start (ends start text) 0 text)
      → (at : Point) (start : ℕ) (text : List Cell) → start ≤ at.column → IsTextAt texts at text
      → IsCutFrom r at start (cut_tokens ends r 0 start text) (count_before r text) text
  unfolding IsCutFrom
  cut-past r cut ends stop =
      cut-by texts r cut ends (IsCutFrom r) stop
      (λ at start c cs ts n h is byte alone next x e last back done.
      grind (arith, next x e (holds backslash c.byte) (λ k. after-byte-of at c byte is) (λ k. absurd (omega arith))))
      (λ at start c d cs ts n h is cell byte second sign other next x e last back done.
      let no_end : holds backslash c.byte ≡ false = other-byte at_sign backslash c.byte refl sign in
      let none : holds backslash d.byte ≡ false = other-byte at_sign backslash d.byte refl other in
      let first = rw (after-byte-of at c byte is, no_end) at (range-past r c.line start (c.column + 1) x e ts (omega arith)) in
      let more = next (with_item false x) (ending r false) false (λ k. absurd (omega arith)) (λ k. inr (same-item x, refl)) in
      rw none (first.0 ∙ more.0 ∙ same-item x, first.1 ∙ more.1))
      (λ at start c d cs ts n h is cell byte second sign other next x e last back done.
      next x e (holds backslash d.byte) (λ k. after-byte-of (point_at c.line (c.column + 1)) d second cell)
      (λ k. absurd (omega arith)))
      (λ at start c d cs ts n h is cell byte none other next x e last back done.
      let first = range-past r c.line start (c.column + 1) x e (token.QuoteBreak c.line ∷ ts) (omega arith) in
      let m = with_item false (with_item false x) in
      let more = next m Ends false (λ k. absurd (omega arith)) (λ k. inr (same-item (with_item false x), (search rules))) in
      rw none (first.0 ∙ more.0 ∙ (grind arith), first.1 ∙ more.1))

  -- quoted texts: no line end after one of their ranges goes on

  quoted-past : (r : Region) → ((b : Bool) → ending r b ≡ Ends) → (close last : ℕ) (at : Point) (start : ℕ) (text : List Cell)
      → start ≤ at.column → IsTextAt texts at text → IsCutFrom r at start (quote_end r close last start text) 0 text
  unfolding IsCutFrom
  quoted-past r quoted close last at start [] h is x e before back done = grind (arith, nat_tests)
  quoted-past r quoted close last at start (c ∷ cs) h is x e before back done =
      elim (cases_Bool (holds close c.byte)) [
        | inl closes ↦
            let first = rw append-nil at (range-past r c.line start (c.column + 1) x e [] (omega (arith, is.0.column))) in
            rw (closes, quoted before) (first.0, first.1 ∙ quoted _)
        | inr other ↦
            rw other (stop-past r at start c cs true fault.StringEnd h is.0 x e before back done)
      ]

  pub quoted-steps : (R : Judgement texts) (r : Region) → IsCut r → ((b : Bool) → ending r b ≡ Ends)
      → (l : LineOfC) (e : AtLineEnd) (close : ℕ) (s : LexerState) (at : Point) (c : Cell) (cs : List Cell)
      → IsTextAt texts at (c ∷ cs) → IsByte c.byte
      → Steps texts R l e (quoted_text r close s (c ∷ cs)).tokens (with_item false l) Ends
  unfolding IsCutFrom
  quoted-steps R r cut quoted l e close s at c cs is byte =
      let past = cut-past r cut (quote_end r close s.last_line) (quoted-past r quoted close s.last_line)
      (point_at c.line (c.column + 1)) c.column cs (omega arith) (text-next texts at c cs is byte) l e
      (holds backslash c.byte) (λ k. after-byte-of at c byte is.0) (λ k. absurd (omega arith)) in
      rw (past.0, past.1 ∙ quoted _) at (text-steps R (quoted_text r close s (c ∷ cs)).tokens l e
      (quoted-text r close s (c ∷ cs)).none)
