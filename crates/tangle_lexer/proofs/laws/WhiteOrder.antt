-- The tokens of comments, control texts, other white space, words and signs are in order. `texts` are the bytes of the
-- source lines.
use Rattle.std.proofs.Common.{rules}
use Rattle.std.proofs.Common.{◌≡◌, ℕ, ◌+◌, ◌≤◌, Bool, true, not, List, [], ◌∷◌, drop, Option}
use Rattle.std.proofs.Common.{ap, sym, ◌∙◌, arith, subst, if◌then◌else◌}
use Rattle.tangle_faults.specs.declared.faults.FaultKind.{FaultKind}
use Rattle.tangle_lexer.specs.declared.modes.LexerState.{LexerState}
use Rattle.tangle_text.specs.declared.regions.Region.{Region}
use Rattle.tangle_text.specs.declared.regions.Region.TheVariants as region
use Rattle.tangle_text.specs.declared.regions.Unit.TheVariants as unit
use Rattle.tangle_text.specs.Bytes.{apostrophe, holds}
use Rattle.std.proofs.lemmas.List.{drop-drop}
use Rattle.tangle_text.specs.Text.{Cell, byte_at, front_line, span_at}
use Rattle.tangle_text.specs.Regions.{unit_of, count_before}
use Rattle.tangle_text.specs.Words.{word_region, word_more}
use Rattle.tangle_lexer.specs.declared.modes.Mode.{Mode}
use Rattle.tangle_lexer.specs.Simple.{is_c_text}
use Rattle.tangle_lexer.specs.Lexemes.{Lexeme, is_in_directive}
use Rattle.tangle_lexer.specs.Comments.{line_ends, two_if, ends_region, comment_or_control_text}
use Rattle.tangle_lexer.specs.Constants.{bad_constant}
use Rattle.tangle_lexer.proofs.laws.Points.{Point, point_at, IsByte, HoldsBytes, IsTextAt, text-within, text-after}
use Rattle.tangle_lexer.proofs.laws.Points.{text-somewhere}
use Rattle.tangle_lexer.proofs.laws.TokenOrder.{IsAtLine, in_order-append, faults-in_order, inner-in_order}
use Rattle.tangle_lexer.proofs.laws.TokenOrder.{in_order-weaker, AreBefore, IsBefore, Reaches, text-later, text-reaches}
use Rattle.tangle_lexer.specs.declared.tokens.Token.TheVariants as token
use Rattle.tangle_lexer.specs.declared.tokens.SpanKind.{SpanKind}
use Rattle.tangle_lexer.proofs.laws.RegionOrder.{more-bytes, region-bytes}
use Rattle.tangle_lexer.proofs.laws.RegionOrder.{end-line, line_ends-in_order, lexeme-line}

pub word-bytes : (c : Cell) (cs : List Cell) → IsByte c.byte → HoldsBytes (1 + word_more (c ∷ cs)) (c ∷ cs)
word-bytes c cs byte =
    more-bytes 1 (word_more (c ∷ cs)) (c ∷ cs) (byte, tt) (region-bytes (word_region c.byte) (grind arith) cs)

-- a closing byte, if it is there
one-byte : (expected : ℕ) (text : List Cell) → HoldsBytes (if holds expected (byte_at 0 text) then 1 else 0) text
one-byte expected x = grind arith

-- a bad constant is on one line
pub bad_constant-bytes : (s : LexerState) (text : List Cell)
    → HoldsBytes 2 text → HoldsBytes (1 + (bad_constant s text).more) text
bad_constant-bytes s text h =
    let rest : List Cell = drop 2 text in
    let inside : ℕ = count_before region.BadConstant rest in
    let last : ℕ = if holds apostrophe (byte_at 0 (drop inside rest)) then 1 else 0 in
    let sum : 2 + (inside + last) ≡ 1 + (1 + inside + last) = omega arith in
    search (rules, more-bytes, region-bytes, one-byte)

-- the two bytes that end a region, if they are there
ends-bytes : (r : Region) (text : List Cell) → ends_region r text ≡ true → HoldsBytes 2 text
ends-bytes x text h = grind arith

-- the cells of a region and of its end, after the two that open it
pub after-end : (n k : ℕ) (cs : List Cell) → drop (1 + n + k) cs ≡ drop k (drop n (drop 1 cs))
after-end n k cs = sym (ap (drop k) (drop-drop n 1 cs) ∙ drop-drop k (1 + n) cs)

module _ (texts : List (List ℕ)) where
  -- the tokens of a lexeme, of which `cs` is the text after its first cell
  abbrev pub LexemeIsInOrder : ℕ → Cell → List Cell → Lexeme → Type 0
  LexemeIsInOrder line c cs here =
      (p : Point) → Reaches (c ∷ cs) p → AreBefore texts (drop here.more cs) line p here.tokens

  -- a text is on a line if it is C text, and not before a point
  abbrev pub IsAhead : Mode → List Cell → ℕ → Point → Type 0
  IsAhead mode rest line p = (is_c_text mode ≡ true → IsAtLine line rest) × Reaches rest p

  -- a comment or a control text, which begins with two bytes, may have line ends, and may end with two more bytes
  pub region-in_order : (r : Region) → ((b n : Option ℕ) → unit_of r b n ≡ unit.Two → IsByte n)
      → (kind : FaultKind) (s : LexerState) (at : Point) (c : Cell) (cs : List Cell)
      → IsTextAt texts at (c ∷ cs) → HoldsBytes 2 (c ∷ cs)
      → LexemeIsInOrder at.line c cs (comment_or_control_text r kind s (c ∷ cs))
  region-in_order r stays kind s at c cs is front-bytes p reached =
      let rest : List Cell = drop 1 cs in
      let inside : ℕ = count_before r rest in
      let after : List Cell = drop inside rest in
      let closed : Bool = ends_region r after in
      let front : Point = point_at at.line (at.column + 2) in
      let is2 = text-after texts 2 at (c ∷ cs) is front-bytes in
      let back = text-somewhere texts inside front rest is2 in
      let end : List Cell = drop (two_if closed) after in
      let last : Reaches end p =
      rw (← after-end inside (two_if closed) cs) (text-later texts _ at p c cs is reached) in
      subst (λ end. AreBefore texts end at.line p (comment_or_control_text r kind s (c ∷ cs)).tokens)
      (sym (after-end inside (two_if closed) cs)) (
        tt,
        in_order-append texts (IsBefore end) _ at.line p _
            (inner-in_order texts _ (is_in_directive s) at.line p (line_ends r rest)
            (in_order-weaker texts (λ l q. IsAtLine l after × Reaches end q) _
            (λ l q here. faults-in_order texts (IsBefore end) (not closed) kind (front_line s.last_line after) l q
            (end-line texts closed back.0 after l back.1 (ends-bytes r after) here.0, here.1))
            at.line p (line_ends r rest) (line_ends-in_order texts r stays p (Reaches end) last rest front is2))),
      )

  -- the span of the first `n` bytes of a lexeme that is bytes
  pub span-in_order : (kind : SpanKind) (at : Point) (n more : ℕ) (c : Cell) (cs : List Cell)
      → IsTextAt texts at (c ∷ cs) → n ≤ 1 + more → HoldsBytes (1 + more) (c ∷ cs) → (p : Point) → Reaches (c ∷ cs) p
      → AreBefore texts (drop more cs) at.line p (token.Span kind (span_at n (c ∷ cs)) ∷ [])
  span-in_order kind at n more c cs is le bytes p h =
      search (rules, text-reaches, text-after, text-within, lexeme-line)
