-- The tokens of a text follow one another by lines. `texts` are the bytes of the source lines.
use Rattle.std.proofs.Common.{arith}
use Rattle.std.proofs.Common.{◌≡◌, ℕ, zero, suc, ◌+◌, ◌<◌, ◌≤◌, Bool, List, [], ◌∷◌, ◌++◌, length, map, drop}
use Rattle.tangle_faults.specs.declared.faults.FaultKind.{FaultKind}
use Rattle.tangle_text.specs.Text.{Cell, IsSpan}
use Rattle.tangle_lexer.specs.declared.tokens.Token.{Token}
use Rattle.tangle_lexer.specs.declared.tokens.Token.TheVariants as token
use Rattle.tangle_lexer.specs.Lexemes.{fault_if}
use Rattle.tangle_lexer.specs.LinesOfC.{inner_end_in}
use Rattle.tangle_lexer.proofs.laws.Points.{Point, point_at, after_cell, IsTextAt}

-- the line to which a token on this line leads
abbrev pub line_after : ℕ → Token → ℕ
line_after line (token.MacroStart at) = at
line_after line (token.UnnamedPart at) = at
line_after line (token.NamedPart at occurrence) = at
line_after line (token.UseOf at occurrence) = at
line_after line (token.LineEnd at) = line + 1
line_after line (token.InnerLineEnd at) = line + 1
line_after line (token.QuoteBreak at) = line + 1
line_after line _ = line

-- the first cell of a text, if there is one, is on this line
abbrev pub IsAtLine : ℕ → List Cell → Type 0
IsAtLine line [] = Unit {0}
IsAtLine line (c ∷ cs) = c.line ≡ line

-- the first point is not after the second
abbrev pub Precedes : Point → Point → Type 0
Precedes p q = (p.line ≤ q.line) × (p.line ≡ q.line → p.column ≤ q.column)

-- a point is not after the first cell of a text, if there is one
abbrev pub Reaches : List Cell → Point → Type 0
Reaches [] p = Unit {0}
Reaches (c ∷ cs) p = Precedes p (point_at c.line c.column)

-- a text is on this line, and not before this point
abbrev pub IsBefore : List Cell → ℕ → Point → Type 0
IsBefore text line p = IsAtLine line text × Reaches text p

-- the end of the last span, with this token
abbrev pub span_end : Point → Token → Point
span_end p (token.Span kind s) = point_at s.line s.end
span_end p _ = p

module _ (texts : List (List ℕ)) where
  -- A token that has a line is on this line. The line of a source item is one of the source, and a span is a range of
  -- it. A name may end on a later line. There are no runs.
  abbrev pub IsOnLine : ℕ → Token → Type 0
  IsOnLine line (token.Span kind s) = (s.line ≡ line) × IsSpan texts s
  IsOnLine line (token.AsciiConstant value at) = (at ≡ line) × (line < length texts)
  IsOnLine line (token.LineEnd at) = at ≡ line
  IsOnLine line (token.InnerLineEnd at) = at ≡ line
  IsOnLine line (token.QuoteBreak at) = at ≡ line
  IsOnLine line (token.AllMacros at) = at ≡ line
  IsOnLine line (token.Run s) = ⊥
  IsOnLine line _ = Unit {0}

  -- and a span is not before this point
  abbrev pub IsNext : ℕ → Point → Token → Type 0
  IsNext line p (token.Span kind s) = IsOnLine line (token.Span kind s) × Precedes p (point_at s.line s.start)
  IsNext line p t = IsOnLine line t

  -- Each token is on the line to which the tokens before it lead from this line on, the spans follow one another from
  -- this point on, and `P` is true of the line after all of them, and of the end of the last span.
  abbrev pub AreInOrder : (ℕ → Point → Type 0) → ℕ → Point → List Token → Type 0
  AreInOrder P line p [] = P line p
  AreInOrder P line p (t ∷ ts) = IsNext line p t × AreInOrder P (line_after line t) (span_end p t) ts

  -- the tokens are in order from this line and this point on
  abbrev pub AreFromLine : ℕ → Point → List Token → Type 0
  AreFromLine = AreInOrder (λ l q. Unit {0})

  -- such a token is neither a head nor a fault
  abbrev pub IsInPart : ℕ → Token → Type 0
  IsInPart line token.Section = ⊥
  IsInPart line (token.MacroStart at) = ⊥
  IsInPart line (token.UnnamedPart at) = ⊥
  IsInPart line (token.NamedPart at occurrence) = ⊥
  IsInPart line (token.Fault kind at) = ⊥
  IsInPart line t = IsOnLine line t

  -- tokens without heads and faults are on their lines from this line on
  abbrev pub AreByLine : ℕ → List Token → Type 0
  AreByLine line [] = Unit {0}
  AreByLine line (t ∷ ts) = IsInPart line t × AreByLine (line_after line t) ts

  -- the tokens are in order, and the text after them is on the line to which they lead, and not before their spans
  abbrev pub AreBefore : List Cell → ℕ → Point → List Token → Type 0
  AreBefore rest = AreInOrder (IsBefore rest)

  pub in_order-append : (P : ℕ → Point → Type 0) (us : List Token) (line : ℕ) (p : Point) (ts : List Token)
      → AreInOrder (λ l q. AreInOrder P l q us) line p ts → AreInOrder P line p (ts ++ us)
  in_order-append P us line p [] h = h
  in_order-append P us line p (t ∷ ts) h = (h.0, in_order-append P us (line_after line t) (span_end p t) ts h.1)

  pub in_order-weaker : (P Q : ℕ → Point → Type 0) → ((l : ℕ) (q : Point) → P l q → Q l q)
      → (line : ℕ) (p : Point) (ts : List Token) → AreInOrder P line p ts → AreInOrder Q line p ts
  in_order-weaker P Q weaker line p [] h = weaker line p h
  in_order-weaker P Q weaker line p (t ∷ ts) h =
      (h.0, in_order-weaker P Q weaker (line_after line t) (span_end p t) ts h.1)

  -- a fault leads to the same line
  pub faults-in_order : (P : ℕ → Point → Type 0) (b : Bool) (kind : FaultKind) (at line : ℕ) (p : Point)
      → P line p → AreInOrder P line p (fault_if b kind at)
  faults-in_order x y kind at line p h = grind arith

  -- line ends of a directive are in order as white space too
  pub inner-in_order : (P : ℕ → Point → Type 0) (b : Bool) (line : ℕ) (p : Point) (ts : List Token)
      → AreInOrder P line p ts → AreInOrder P line p (map (inner_end_in b) ts)
  inner-in_order P b line p [] h = h
  inner-in_order P b line p (t ∷ ts) h =
      grind (arith, inner-in_order P b (line_after line t) (span_end p t) ts h.1)

  -- a point that is not after a text is not after a later text

  pub text-reaches : (at p : Point) (text : List Cell) → IsTextAt texts at text → Precedes p at → Reaches text p
  text-reaches at p x is h = grind arith

  pub text-later : (n : ℕ) (at p : Point) (c : Cell) (cs : List Cell)
      → IsTextAt texts at (c ∷ cs) → Reaches (c ∷ cs) p → Reaches (drop n cs) p
  text-later zero at p c cs is h = grind arith
  text-later (suc n) at p c [] is h = tt
  text-later (suc n) at p c (d ∷ cs) is h = text-later n (after_cell c) p d cs is.1 (grind arith)
