-- Which lines of C of a part have inner line ends and which uses have the fault UseInDirective, lexeme by lexeme.
use Rattle.std.proofs.Common.{append-nil}
use Rattle.tangle_lexer.proofs.lines.OpenLines.{uses-append}
use Rattle.std.proofs.Common.{rules}
use Rattle.std.proofs.lemmas.Bool.Decides.{nat_tests}
use Rattle.std.proofs.Common.{arith}
use Rattle.std.proofs.Common.{◌≡◌, ℕ, zero, suc, true, false, List, [], ◌∷◌, ◌++◌, flat_map, length}
use Rattle.std.proofs.Common.{refl, inl, inr}
use Rattle.std.specs.List.{All}
use Rattle.std.proofs.lemmas.List.Elements.{All-cons, All-nil}
use Rattle.tangle_lines.specs.Reading.{SourceLine}
use Rattle.tangle_text.specs.Text.{Cell, text_from, texts_of}
use Rattle.tangle_lexer.specs.declared.tokens.Token.{Token}
use Rattle.tangle_lexer.specs.declared.modes.Mode.TheVariants as mode
use Rattle.tangle_lexer.specs.declared.modes.LexerState.{LexerState}
use Rattle.tangle_lexer.specs.Lexemes.{Lexeme, is_c_part}
use Rattle.tangle_lexer.specs.LinesOfC.{front}
use Rattle.tangle_lexer.specs.Heads.{is_head}
use Rattle.tangle_lexer.specs.Steps.{lexeme, lexemes, tokens_from, all_tokens, first_state}
use Rattle.tangle_lexer.specs.LinesOfParts.{is_use, is_directive, body, c_parts, uses_in_directive}
use Rattle.tangle_lexer.specs.LinesOfParts.{HasInnerEndsAsDirective, begins_with_use_fault, with_use_fault}
use Rattle.tangle_lexer.specs.LinesOfParts as parts
use Rattle.tangle_lexer.proofs.lemmas.BlockLemmas.{no-head}
use Rattle.tangle_lexer.proofs.lemmas.HeadLemmas.{mode_after, lexeme-alone}
use Rattle.tangle_lexer.proofs.lemmas.PlainTokens.{HasNone}
use Rattle.tangle_lexer.proofs.laws.Points.{Point, point_at, after_cell, IsTextAt, text-is}
use Rattle.tangle_lexer.proofs.lines.LineSteps.{Judgement, Holds}
use Rattle.tangle_lexer.proofs.lines.KindSteps.{Follows, lexeme-follows}

-- tokens without heads

parts-append : (ts us : List Token) → HasNone is_head ts
    → (body (ts ++ us) ≡ ts ++ body us) × (c_parts (ts ++ us) ≡ c_parts us)
parts-append [] us h = (refl, refl)
parts-append (t ∷ ts) us h = grind (arith, nat_tests, parts-append ts us)

module _ (texts : List (List ℕ)) where
  -- these lines of C are what the law says of them
  pub record AreRight (ahead : List Token) (lines : List (List Token)) : Type 0 where
    pub none : begins_with_use_fault ahead ≡ false
    pub inner : All (HasInnerEndsAsDirective texts) lines
    pub uses : with_use_fault ahead ≡ flat_map (uses_in_directive texts) lines

  pub are-right : Judgement texts
  are-right = record {
    holds = AreRight;
    kept = λ t us lines h more. record { none = h; inner = more.inner; uses = rw more.none more.uses };
    ended = search rules;
  }

  abbrev pub IsRightPart : List Token → Type 0
  IsRightPart part = AreRight part (parts.lines_of_c texts [] part)

  -- the tokens from a position on
  pub record AreRightFrom (s : LexerState) (ts : List Token) : Type 0 where
    pub now : s.mode ≡ mode.CPart → Holds texts are-right s.line.line s.line.at_line_end (body ts)
    pub all : All IsRightPart (c_parts ts)

  abbrev Law : LexerState → Lexeme → Type 0
  Law s here = (ts : List Token) → AreRightFrom here.after ts → AreRightFrom s (here.tokens ++ ts)

  -- a part ends
  ended : (l : _) (e : _) → Holds texts are-right l e []
  unfolding are-right
  ended l e before is = record {
    none = refl;
    inner = All-cons (HasInnerEndsAsDirective texts) before [] is.inner (All-nil (HasInnerEndsAsDirective texts));
    uses = grind (arith, append-nil before, uses-append before [] is.uses);
  }

  -- a lexeme that is no head, and a head
  plain-law : (s : LexerState) (here : Lexeme) → is_c_part here.after.mode ≡ is_c_part s.mode
      → HasNone is_head here.tokens → (s.mode ≡ mode.CPart → Follows texts are-right s.line here.tokens here.after.line)
      → Law s here
  plain-law s here same none follows ts right =
      let is = parts-append here.tokens ts none in search (rules, is.0, is.1)

  head-law : (s after : LexerState) (t : Token) (ts : List Token) → is_head t ≡ true → after.mode ≡ mode_after t
      → after.line ≡ front → AreRightFrom after ts → AreRightFrom s (t ∷ ts)
  unfolding are-right
  head-law s after t ts head m first right = grind (arith, nat_tests, ended s.line.line s.line.at_line_end)

  lexeme-law : (s : LexerState) (at : Point) (c : Cell) (cs : List Cell)
      → IsTextAt texts at (c ∷ cs) → Law s (lexeme s (c ∷ cs))
  lexeme-law s at c cs is ts right =
      let here = lexeme s (c ∷ cs) in
      elim (lexeme-alone s (c ∷ cs)) [
        | inl plain ↦
            search (rules, no-head, plain-law, lexeme-follows)
        | inr head ↦ rw head.1 (head-law s here.after head.0 ts head.2 head.3 head.4 right)
      ]

  from-right : (k : ℕ) (s : LexerState) (text : List Cell) (at : Point) → IsTextAt texts at text
      → AreRightFrom s (flat_map (λ l. l.tokens) (lexemes k s text))
  from-right k s [] at is = grind (arith, nat_tests, ended s.line.line s.line.at_line_end)
  from-right (suc k) s (c ∷ cs) at is = from-right k s cs (after_cell c) is.1
  from-right zero s (c ∷ cs) at is =
      let here : Lexeme = lexeme s (c ∷ cs) in
      lexeme-law s at c cs is (flat_map (λ l. l.tokens) (lexemes here.more here.after cs))
      (from-right here.more here.after cs (after_cell c) is.1)

-- the C parts of a source
pub parts-right : (lines : List SourceLine) → All (IsRightPart (texts_of lines)) (c_parts (all_tokens lines))
unfolding tokens_from
parts-right lines =
    (from-right (texts_of lines) 0 (first_state (length lines)) (text_from 0 lines) (point_at 0 0)
    (text-is lines)).all
