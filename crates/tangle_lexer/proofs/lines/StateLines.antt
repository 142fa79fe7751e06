-- Where a lexeme of a C part begins, the lexer knows whether the open line of C is a directive.
use Rattle.std.proofs.Common.{rules}
use Rattle.std.proofs.lemmas.Bool.Decides.{nat_tests}
use Rattle.std.proofs.Common.{arith}
use Rattle.std.proofs.Common.{◌≡◌, ℕ, zero, suc, Bool, true, false, ◌||◌, List, [], ◌∷◌, ◌++◌, length}
use Rattle.std.proofs.Common.{refl, ap, ◌∙◌, cond, append_assoc, append-nil}
use Rattle.std.proofs.lemmas.List.Folds.{list_any-append}
use Rattle.tangle_lines.specs.Reading.{SourceLine}
use Rattle.tangle_text.specs.Text.{Cell, text_from, texts_of}
use Rattle.tangle_lexer.specs.declared.tokens.Token.{Token}
use Rattle.tangle_lexer.specs.declared.modes.Mode.TheVariants as mode
use Rattle.tangle_lexer.specs.declared.modes.LineOfC.TheVariants as line
use Rattle.tangle_lexer.specs.declared.modes.AtLineEnd.TheVariants.{Ends}
use Rattle.tangle_lexer.specs.declared.modes.LexerState.{LexerState}
use Rattle.tangle_lexer.specs.LinesOfC as lines_of_c
use Rattle.tangle_lexer.specs.Lexemes.{Lexeme, is_in_directive}
use Rattle.tangle_lexer.specs.Heads.{is_head}
use Rattle.tangle_lexer.specs.Steps.{lexeme, LexemeStart, lexeme_starts, first_state}
use Rattle.tangle_lexer.specs.LinesOfParts.{is_directive, last_line, open_line, last_body, tokens_of}
use Rattle.tangle_lexer.proofs.lemmas.PlainTokens.{HasNone}
use Rattle.tangle_lexer.proofs.laws.Points.{Point, point_at, after_cell, IsTextAt, text-is}
use Rattle.tangle_lexer.proofs.lines.OpenLines.{directive-is}
use Rattle.tangle_lexer.proofs.lines.LineSteps.{Judgement, Steps, no-steps, steps-append, front-open}
use Rattle.tangle_lexer.proofs.lines.KindSteps.{lexeme-follows}
use Rattle.tangle_lexer.proofs.lemmas.BlockLemmas.{no-head}
use Rattle.tangle_lexer.proofs.lemmas.HeadLemmas.{lexeme-alone}
use Rattle.std.proofs.Common.{inl, inr}

-- the tokens after the last head

body-none : (ts : List Token) → HasNone is_head ts → last_body ts ≡ ts
body-none [] h = refl
body-none (t ∷ ts) h = ap (λ b. cond b (last_body ts) (t ∷ ts)) h

body-append : (ts us : List Token) → HasNone is_head us → last_body (ts ++ us) ≡ last_body ts ++ us
body-append [] us h = body-none us h
body-append (t ∷ ts) us h = grind (arith, nat_tests, body-append ts us h, list_any-append is_head ts us)

body-head : (ts : List Token) (t : Token) → is_head t ≡ true → last_body (ts ++ t ∷ []) ≡ []
body-head [] t h = ap (λ b. cond (b || false) [] (t ∷ [])) h
body-head (u ∷ us) t h = grind (arith, nat_tests, body-head us t h, list_any-append is_head us (t ∷ []))

module _ (texts : List (List ℕ)) where
  -- whether the last of the lines of C is a directive
  last-is : Bool → Judgement texts
  last-is b = record {
    holds = λ ahead lines. (before : List Token) → is_directive texts (last_line before lines) ≡ b;
    kept = λ t us lines h more. more;
    ended = λ t f n us line lines h inner uses more before. more line;
  }

  -- the lexer has read these tokens, of which the last part is a C part if the state is in one
  HasRead : List Token → LexerState → Type 0
  HasRead ts s =
      s.mode ≡ mode.CPart → (b : Bool)
      → Steps texts (last-is b) line.Empty Ends (last_body ts) s.line.line s.line.at_line_end

  -- one lexeme more: a head, after which a part begins, or one that goes on
  lexeme-law : (s : LexerState) (at : Point) (c : Cell) (cs : List Cell) → IsTextAt texts at (c ∷ cs)
      → (ts : List Token) → HasRead ts s → HasRead (ts ++ (lexeme s (c ∷ cs)).tokens) (lexeme s (c ∷ cs)).after
  unfolding HasRead
  lexeme-law s at c cs is ts read m b =
      let here = lexeme s (c ∷ cs) in
      elim (lexeme-alone s (c ∷ cs)) [
        | inl plain ↦
            search (rules, no-head, body-append, steps-append, lexeme-follows)
        | inr head ↦ rw (head.1, body-head ts head.0 head.2, head.4) (no-steps texts (last-is b))
      ]

  -- wherever a lexeme begins, if these tokens are read before the first one
  known : (k : ℕ) (s : LexerState) (text : List Cell) (at : Point) (ts : List Token) (before after : List LexemeStart)
      (here : LexemeStart) → IsTextAt texts at text → HasRead ts s → lexeme_starts k s text ≡ before ++ here ∷ after
      → HasRead (ts ++ tokens_of before) here.state
  known k s [] at ts [] after here is read split = cc
  known k s [] at ts (b ∷ before) after here is read split = cc
  known (suc k) s (c ∷ cs) at ts before after here is read split = known k s cs (after_cell c) ts before after here is.1 read split
  known zero s (c ∷ cs) at ts [] after here is read split = grind (arith, nat_tests, append-nil ts)
  known zero s (c ∷ cs) at ts (b ∷ before) after here is read split =
      let first : Lexeme = lexeme s (c ∷ cs) in
      grind (
        arith,
        nat_tests,
        append_assoc ts,
        known first.more first.after cs (after_cell c) (ts ++ first.tokens) before after here is.1
            (lexeme-law s at c cs is ts read),
      )

-- the lexemes of a source
pub directives-known : (lines : List SourceLine) (before after : List LexemeStart) (here : LexemeStart)
    → lexeme_starts 0 (first_state (length lines)) (text_from 0 lines) ≡ before ++ here ∷ after
    → here.state.mode ≡ mode.CPart → is_in_directive here.state
    ≡ is_directive (texts_of lines) (open_line (texts_of lines) (last_body (tokens_of before)))
unfolding HasRead last-is
directives-known lines before after here split m =
    let texts = texts_of lines in
    let b : Bool = lines_of_c.is_directive_line here.state.line.line in
    let read : HasRead texts (tokens_of before) here.state = known texts 0 (first_state (length lines)) (text_from 0 lines) (point_at 0 0) [] before after here
    (text-is lines) (λ m. cc) split in
    let last = (read m b).holds []
    (λ before is other. directive-is texts before ∙ ap lines_of_c.is_directive_line is.kind ∙ (grind arith))
    [] (front-open texts (last_body (tokens_of before) ++ [])) [] in
    search rules
