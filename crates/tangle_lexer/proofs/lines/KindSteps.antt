-- In a C part the lexer's state follows the open line of C, lexeme by lexeme.
use Rattle.std.proofs.Common.{rules}
use Rattle.std.proofs.Common.{arith}
use Rattle.std.proofs.Common.{◌≡◌, ℕ, Bool, true, false, List, [], ◌∷◌, ◌++◌, map}
use Rattle.std.proofs.Common.{Option, Some, None, refl, ap, sym, ◌∙◌, ◌&&◌}
use Rattle.tangle_faults.specs.declared.faults.FaultKind.{FaultKind}
use Rattle.tangle_faults.specs.declared.faults.FaultKind.TheVariants as fault
use Rattle.tangle_text.specs.declared.regions.Region.{Region}
use Rattle.tangle_lines.specs.Bytes.{at_sign}
use Rattle.tangle_text.specs.Bytes.{number_sign, backslash, holds}
use Rattle.tangle_text.specs.Text.{Cell, byte_at, span_at, front_line}
use Rattle.tangle_lexer.specs.declared.tokens.Token.{Token}
use Rattle.tangle_lexer.specs.declared.tokens.SpanKind.TheVariants as span_kind
use Rattle.tangle_lexer.specs.declared.tokens.Token.TheVariants as token
use Rattle.tangle_lexer.specs.declared.constants.AsciiConstant.{AsciiConstant}
use Rattle.tangle_lexer.specs.declared.lexeme_kinds.ControlCode.TheVariants as code
use Rattle.tangle_lexer.specs.declared.lexeme_kinds.LexemeKind.{LexemeKind}
use Rattle.tangle_lexer.specs.declared.lexeme_kinds.LexemeKind.TheVariants as lexeme_kind
use Rattle.tangle_lexer.specs.declared.modes.Mode.TheVariants as mode
use Rattle.tangle_lexer.specs.declared.modes.LineOfC.{LineOfC}
use Rattle.tangle_lexer.specs.declared.modes.LineOfC.TheVariants as line
use Rattle.tangle_lexer.specs.declared.modes.AtLineEnd.{AtLineEnd}
use Rattle.tangle_lexer.specs.declared.modes.LineState.{LineState}
use Rattle.tangle_lexer.specs.declared.modes.LexerState.{LexerState}
use Rattle.tangle_lexer.specs.LinesOfC.{with_item, inner_end_in, after_line_end, after_line_ends}
use Rattle.tangle_lexer.specs.LinesOfC as lines_of_c
use Rattle.tangle_lexer.specs.Lexemes.{is_c_part, is_in_directive, white_lexeme}
use Rattle.tangle_lexer.specs.Comments.{line_ends}
use Rattle.tangle_lexer.specs.Constants.{constant_lexeme}
use Rattle.tangle_lexer.specs.Names.{use_of_name, name_end}
use Rattle.tangle_lexer.specs.Steps.{c_lexeme, lexeme}
use Rattle.tangle_lexer.specs.CText.{kind_at}
use Rattle.tangle_lexer.specs.Heads.{is_head}
use Rattle.tangle_lexer.proofs.lemmas.StepLemmas.{lexeme-here}
use Rattle.tangle_lexer.specs.LinesOfParts.{is_use_fault}
use Rattle.tangle_lexer.proofs.lemmas.LexemeCases.{OpensLexeme, kind-opens}
use Rattle.tangle_lexer.proofs.lemmas.PlainTokens.{HasNone, none-flat}
use Rattle.tangle_lexer.proofs.laws.Points.{Point, IsByte, IsCellAt, IsTextAt, byte-test}
use Rattle.tangle_lexer.proofs.laws.RegionOrder.{some-byte, other-byte}
use Rattle.tangle_lexer.proofs.lines.LineSteps.{Judgement, Steps, no-steps, steps-append, white-step, fault-step, faults-step}
use Rattle.tangle_lexer.proofs.lines.LineSteps.{item-step, join-step}
use Rattle.tangle_lexer.proofs.lines.LineSteps.{line_end-step, inner-step, use-step}
use Rattle.tangle_lexer.proofs.lines.TextSteps.{end_by, quoted-steps}
use Rattle.tangle_lexer.proofs.lines.VerbatimSteps.{verbatim-steps}

abbrev is_no_line_end : Token → Bool
is_no_line_end (token.LineEnd n) = false
is_no_line_end _ = true

abbrev AreLineEnds : List Token → Type 0
AreLineEnds ts = HasNone is_no_line_end ts

line_ends-are : (r : Region) (text : List Cell) → AreLineEnds (line_ends r text)
line_ends-are r text = grind (arith, none-flat)

pub in_directive : (s : LexerState) → s.mode ≡ mode.CPart → is_in_directive s ≡ lines_of_c.is_directive_line s.line.line
in_directive s m = ap (λ x. is_c_part x && lines_of_c.is_directive_line s.line.line) m

module _ (texts : List (List ℕ)) (R : Judgement texts) where
  -- the state after tokens, by the parts of it that say how the line of C was read
  abbrev pub Follows : LineState → List Token → LineState → Type 0
  Follows l ts m = Steps texts R l.line l.at_line_end ts m.line m.at_line_end

  -- tokens that leave each state as it is
  abbrev Leaves : List Token → Type 0
  Leaves ts = (l : LineOfC) (e : AtLineEnd) → Steps texts R l e ts l e

  -- line ends inside white space, which are white space in a directive
  inner-ends : (b : Bool) (l : LineState) (ts : List Token) → (b ≡ true → lines_of_c.is_directive_line l.line ≡ true)
      → AreLineEnds ts → Follows l (map (inner_end_in b) ts) (after_line_ends b ts l)
  inner-ends b l [] d h = no-steps texts R
  inner-ends false l (token.LineEnd n ∷ ts) d h =
      steps-append texts R (token.LineEnd n ∷ []) (map (inner_end_in false) ts) (line_end-step texts R n)
      (inner-ends false (after_line_end l) ts (λ e. cc) h)
  inner-ends true l (token.LineEnd n ∷ ts) d h =
      steps-append texts R (token.InnerLineEnd n ∷ []) (map (inner_end_in true) ts)
      (rw (← same l.line (d refl)) (inner-step texts R n)) (inner-ends true l ts d h)
    where
      same : (k : LineOfC) → lines_of_c.is_directive_line k ≡ true → line.Directive ≡ k
      same k is = search rules
  inner-ends b l (_ ∷ ts) d h = cc

  white-follows : (s : LexerState) (ends faults : List Token) → s.mode ≡ mode.CPart → AreLineEnds ends → Leaves faults
      → Follows s.line (white_lexeme ends faults 0 s).tokens (white_lexeme ends faults 0 s).after.line
  white-follows s ends faults m are leave =
      let b : Bool = is_in_directive s in
      steps-append texts R (token.White ∷ []) (map (inner_end_in b) ends ++ faults) (white-step texts R)
      (steps-append texts R (map (inner_end_in b) ends) faults
      (inner-ends b s.line ends (λ h. sym (in_directive s m) ∙ h) are) (leave _ _))

  white-alone : (s : LexerState) (kind : FaultKind) (n : ℕ) → s.mode ≡ mode.CPart
      → is_use_fault (token.Fault kind n) ≡ false
      → Follows s.line (white_lexeme [] (token.Fault kind n ∷ []) 0 s).tokens
      (white_lexeme [] (token.Fault kind n ∷ []) 0 s).after.line
  white-alone s kind n m h = search (rules, white-follows, fault-step)

  -- signs
  sign-follows : {l : LineOfC} {e : AtLineEnd} (at : Point) (c : Cell) (cs : List Cell) (is_number is_backslash : Bool)
      → IsByte c.byte → IsCellAt texts at c
      → holds number_sign c.byte ≡ is_number → holds backslash c.byte ≡ is_backslash
      → Steps texts R l e (token.Span span_kind.Sign (span_at 1 (c ∷ cs)) ∷ [])
      (with_item is_number l) (end_by is_backslash)
  sign-follows at c cs n b byte is number back =
      rw (← number, ← back, ← byte-test texts number_sign at c byte is, ← byte-test texts backslash at c byte is)
      (item-step texts R (token.Span span_kind.Sign (span_at 1 (c ∷ cs))) refl)

  constant-follows : (constant : Option AsciiConstant) (s : LexerState) (text : List Cell) → s.mode ≡ mode.CPart
      → Follows s.line (constant_lexeme constant s text).tokens (constant_lexeme constant s text).after.line
  constant-follows None s text m = white-alone s fault.AsciiBad _ m refl
  constant-follows (Some k) s text m =
      item-step texts R (token.AsciiConstant k.value (front_line s.last_line text)) refl

  -- uses
  use-follows : (s : LexerState) (text : List Cell) → s.mode ≡ mode.CPart
      → Follows s.line (use_of_name s text).tokens (use_of_name s text).after.line
  use-follows s text m =
      rw (in_directive s m) (steps-append texts R _ _ (steps-append texts R _ _
      (use-step texts R (token.UseOf (front_line s.last_line (name_end text)) s.occurrences) (front_line s.last_line text) refl)
      (faults-step texts R _ fault.NameEnd _ refl)) (faults-step texts R _ fault.NameEquals _ refl))

  kind-follows : (kind : LexemeKind) (s : LexerState) (at : Point) (c : Cell) (cs : List Cell)
      → s.mode ≡ mode.CPart → HasNone is_head (c_lexeme kind s (c ∷ cs)).tokens → OpensLexeme kind (c ∷ cs)
      → IsTextAt texts at (c ∷ cs)
      → Follows s.line (c_lexeme kind s (c ∷ cs)).tokens (c_lexeme kind s (c ∷ cs)).after.line
  kind-follows (lexeme_kind.Control code.SectionStart) s at c cs m none o is = cc
  kind-follows (lexeme_kind.Control code.Name) s at c cs m none o is = use-follows s (c ∷ cs) m
  kind-follows (lexeme_kind.Control code.DoubleAt) s at c cs m none o is =
      sign-follows at c cs false false (grind arith) is.0
      (other-byte at_sign number_sign c.byte refl o.0) (other-byte at_sign backslash c.byte refl o.0)
  kind-follows lexeme_kind.Word s at c cs m none o is = item-step texts R _ refl
  kind-follows lexeme_kind.Other s at c cs m none o is =
      sign-follows at c cs (holds number_sign c.byte) (holds backslash c.byte) (some-byte c.byte o.0) is.0 refl refl
  kind-follows (lexeme_kind.Control kind) s at c cs m none o is =
      search (rules, white-alone, white-step, join-step, white-follows, line_ends-are, faults-step, verbatim-steps, use-step, constant-follows)
  kind-follows _ s at c cs m none o is =
      search (rules, line_end-step, white-step, white-follows, line_ends-are, faults-step, quoted-steps, some-byte)

  -- a lexeme of a C part that is no head
  pub lexeme-follows : (s : LexerState) (at : Point) (c : Cell) (cs : List Cell) → s.mode ≡ mode.CPart
      → HasNone is_head (lexeme s (c ∷ cs)).tokens → IsTextAt texts at (c ∷ cs)
      → Follows s.line (lexeme s (c ∷ cs)).tokens (lexeme s (c ∷ cs)).after.line
  lexeme-follows s at c cs m none is =
      let here = lexeme-here s (c ∷ cs) (kind_at s.line.include (c ∷ cs)) m refl in
      rw here (kind-follows _ s at c cs m (rw here at none) (kind-opens s.line.include c.byte (byte_at 0 cs)) is)
