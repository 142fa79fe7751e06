-- What a token does to the open line of C, and that the lexer's state follows it.
use Rattle.std.proofs.Common.{rules}
use Rattle.std.proofs.lemmas.Bool.Decides.{nat_tests}
use Rattle.std.proofs.Common.{arith}
use Rattle.std.proofs.Common.{◌≡◌, ℕ, Bool, true, false, ◌&&◌, ◌||◌, not, List, [], ◌∷◌, ◌++◌, refl, ap, ◌∙◌}
use Rattle.std.proofs.Common.{cond, if◌then◌else◌, append_assoc}
use Rattle.std.specs.List.{list_any}
use Rattle.tangle_faults.specs.declared.faults.FaultKind.{FaultKind}
use Rattle.tangle_faults.specs.declared.faults.FaultKind.TheVariants as fault
use Rattle.tangle_lexer.specs.declared.tokens.Token.{Token}
use Rattle.tangle_lexer.specs.declared.tokens.Token.TheVariants as token
use Rattle.tangle_lexer.specs.declared.modes.LineOfC.{LineOfC}
use Rattle.tangle_lexer.specs.declared.modes.LineOfC.TheVariants as line
use Rattle.tangle_lexer.specs.declared.modes.AtLineEnd.{AtLineEnd}
use Rattle.tangle_lexer.specs.declared.modes.AtLineEnd.TheVariants.{Ends, Continued, Removed}
use Rattle.tangle_lexer.specs.LinesOfC.{with_item, joined_line, line_after_end, at_next_line_end}
use Rattle.tangle_lexer.specs.LinesOfC as lines_of_c
use Rattle.tangle_lexer.specs.Lexemes.{fault_if}
use Rattle.tangle_lexer.specs.LinesOfParts.{is_number_sign, is_use, is_directive}
use Rattle.tangle_lexer.specs.LinesOfParts.{is_continued_line, join_behind, join_ahead, ends_line_of_c, is_inner_line_end}
use Rattle.tangle_lexer.specs.LinesOfParts.{HasInnerEndsAsDirective, uses_in_directive, is_use_fault}
use Rattle.tangle_lexer.specs.LinesOfParts as parts
use Rattle.tangle_lexer.specs.SpanBytes.{ends_in_backslash}
use Rattle.tangle_lexer.proofs.lines.OpenLines.{settled, kind_of, kind_after, kind-snoc, directive-is, end_of, end_after}
use Rattle.tangle_lexer.proofs.lines.OpenLines.{end-snoc, inner-snoc, uses-append, uses-snoc}

module _ (texts : List (List ℕ)) where
  -- the open line is one of which the lexer's state says this, before the tokens `ahead`
  pub record IsOpen (before : List Token) (l : LineOfC) (e : AtLineEnd) (ahead : List Token) : Type 0 where
    pub kind : kind_of texts before ≡ settled l (join_ahead ahead)
    pub end : end_of texts before ≡ e
    pub inner : HasInnerEndsAsDirective texts before
    pub uses : list_any is_use before ≡ false

  -- the line of C after a use has nothing so far
  pub front-open : (us : List Token) → IsOpen [] line.Empty Ends us
  front-open us = record { kind = refl; end = refl; inner = λ h. cc; uses = refl }

  -- What is said of tokens and of the lines of C that go over them from the open line on. It is said of one token more if
  -- it is said of the tokens after it, whether the token stays on the open line, or ends it, perhaps as a use.
  pub record Judgement : Type 1 where
    pub holds : List Token → List (List Token) → Type 0
    pub kept : (t : Token) (us : List Token) (lines : List (List Token)) → is_use_fault t ≡ false
        → holds us lines → holds (t ∷ us) lines
    pub ended : (t : Token) (b : Bool) (n : ℕ) (us line : List Token) (lines : List (List Token))
        → is_use_fault t ≡ false → HasInnerEndsAsDirective texts line
        → uses_in_directive texts line ≡ (if b then t ∷ [] else [])
        → holds us lines → holds (t ∷ fault_if b fault.UseInDirective n ++ us) (line ∷ lines)

module _ (texts : List (List ℕ)) (R : Judgement texts) where
  -- the lines of C that begin with the open line are so
  abbrev pub Holds : LineOfC → AtLineEnd → List Token → Type 0
  Holds l e ahead =
      (before : List Token) → IsOpen texts before l e ahead → R.holds ahead (parts.lines_of_c texts before ahead)

  -- the lexer's state before and after tokens
  pub record Steps (l : LineOfC) (e : AtLineEnd) (ts : List Token) (m : LineOfC) (f : AtLineEnd) : Type 0 where
    pub holds : (us : List Token) → Holds m f us → Holds l e (ts ++ us)

  pub no-steps : {l : LineOfC} {e : AtLineEnd} → Steps l e [] l e
  no-steps = record { holds = λ us next. next }

  pub steps-append : {l m n : LineOfC} {e f g : AtLineEnd} (ts us : List Token)
      → Steps l e ts m f → Steps m f us n g → Steps l e (ts ++ us) n g
  steps-append ts us first more = search (rules, append_assoc)

  -- one token

  -- the line ends with a token or goes on
  abbrev Goes : Bool → List Token → Token → LineOfC → AtLineEnd → AtLineEnd → List Token → Type 0
  Goes true before t m e f us = IsOpen texts [] m f us
  Goes false before t m e f us =
      (kind_after texts t (kind_of texts before) ≡ settled m (join_ahead us)) × (end_after texts t e ≡ f)

  one-step : {l m : LineOfC} {e f : AtLineEnd} (t : Token) → is_use t ≡ false → is_use_fault t ≡ false
      → ((before us : List Token) → IsOpen texts before l e (t ∷ us)
      → (is_inner_line_end t ≡ true → is_directive texts before ≡ true)
      × Goes (ends_line_of_c texts before t us) before t m e f us)
      → Steps l e (t ∷ []) m f
  one-step {l} {m} {e} {f} t no_use no_fault goes = record {
    holds = λ us next before is. by us next before is (ends_line_of_c texts before t us) (goes before us is);
  }
    where
      by : (us : List Token) → Holds m f us → (before : List Token) → IsOpen texts before l e (t ∷ us) → (b : Bool)
          → (is_inner_line_end t ≡ true → is_directive texts before ≡ true) × Goes b before t m e f us → R.holds (t ∷ us)
          (cond b ((before ++ t ∷ []) ∷ parts.lines_of_c texts [] us) (parts.lines_of_c texts (before ++ t ∷ []) us))
      by us next before is true goes =
          R.ended t false 0 us (before ++ t ∷ []) (parts.lines_of_c texts [] us) no_fault
          (inner-snoc texts before t is.inner goes.0) (grind (arith, nat_tests, uses-append)) (next [] goes.1)
      by us next before is false goes =
          R.kept t us (parts.lines_of_c texts (before ++ t ∷ []) us) no_fault (next (before ++ t ∷ []) (record {
            kind = kind-snoc texts before t ∙ goes.1.0;
            end = end-snoc texts before t ∙ (ap (end_after texts t) is.end ∙ goes.1.1);
            inner = inner-snoc texts before t is.inner goes.0;
            uses = uses-snoc before t is.uses no_use;
          }))

  -- white space and faults
  pub white-step : {l : LineOfC} {e : AtLineEnd} → Steps l e (token.White ∷ []) l e
  white-step = one-step token.White refl refl (λ before us is. ((λ h. cc), (is.kind, refl)))

  pub fault-step : {l : LineOfC} {e : AtLineEnd} (kind : FaultKind) (n : ℕ)
      → is_use_fault (token.Fault kind n) ≡ false → Steps l e (token.Fault kind n ∷ []) l e
  fault-step kind n h = one-step (token.Fault kind n) refl h (λ before us is. ((λ h. cc), (is.kind, refl)))

  pub faults-step : {l : LineOfC} {e : AtLineEnd} (b : Bool) (kind : FaultKind) (n : ℕ)
      → is_use_fault (token.Fault kind n) ≡ false → Steps l e (fault_if b kind n) l e
  faults-step x kind n h = search (rules, fault-step, no-steps)

  abbrev pub is_item : Token → Bool
  is_item (token.Span kind s) = true
  is_item (token.AsciiConstant value n) = true
  is_item (token.QuoteBreak n) = true
  is_item t = false

  pub item-step : {l : LineOfC} {e : AtLineEnd} (t : Token) → is_item t ≡ true
      → Steps l e (t ∷ []) (with_item (is_number_sign texts t) l) (if ends_in_backslash texts t then Continued else Ends)
  item-step {l} {e} t h =
      one-step t (grind arith) (grind arith) (λ before us is. ((grind arith), (grind arith)))

  pub join-step : {l : LineOfC} {e : AtLineEnd} → Steps l e (token.Join ∷ []) (joined_line l) Removed
  join-step {l} =
      one-step token.Join refl refl (λ before us is. ((λ h. cc), (is.kind ∙ (grind arith), refl)))

  pub line_end-step : {l : LineOfC} {e : AtLineEnd} (n : ℕ)
      → Steps l e (token.LineEnd n ∷ []) (line_after_end e l) (at_next_line_end e)
  line_end-step {l} {e} n =
      one-step (token.LineEnd n) refl refl (λ before us is. (
        (λ h. cc),
        by before us is (join_behind before) (is_continued_line texts before) (join_ahead us) is.end refl,
      ))
    where
      by : (before us : List Token) → IsOpen texts before l e (token.LineEnd n ∷ us) → (a g j : Bool)
          → cond a Removed (cond g Continued Ends) ≡ e → join_ahead us ≡ j
          → Goes (not (a || g) && not j) before (token.LineEnd n) (line_after_end e l) e (at_next_line_end e) us
      by before us is false false true end joins = search rules
      by before us is false false false end joins = search rules
      by before us is a g j end _ = (is.kind ∙ ap (λ x. settled (line_after_end x l) (join_ahead us)) end, refl)

  -- a line end inside a comment or a control text of a directive
  pub inner-step : {e : AtLineEnd} (n : ℕ) → Steps line.Directive e (token.InnerLineEnd n ∷ []) line.Directive e
  inner-step n =
      one-step (token.InnerLineEnd n) refl refl (λ before us is. (
        (λ h. directive-is texts before ∙ ap lines_of_c.is_directive_line is.kind),
        (is.kind, refl),
      ))

  -- uses

  abbrev pub use_fault : Bool → ℕ → List Token
  use_fault b n = fault_if b fault.UseInDirective n

  pub use-step : {l : LineOfC} {e : AtLineEnd} (t : Token) (n : ℕ) → is_use t ≡ true
      → Steps l e (t ∷ use_fault (lines_of_c.is_directive_line l) n) line.Empty Ends
  use-step {l} {e} t n used = record {
    holds = λ us next before is.
        let ends : ends_line_of_c texts before t (use_fault (lines_of_c.is_directive_line l) n ++ us) ≡ true = (grind arith) in
        let item : kind_after texts t (kind_of texts before) ≡ with_item false (kind_of texts before) = (grind arith) in
        let none : join_ahead (t ∷ use_fault (lines_of_c.is_directive_line l) n ++ us) ≡ false = (grind arith) in
        rw ends (by us next before (lines_of_c.is_directive_line l)
        (inner-snoc texts before t is.inner (λ j. absurd (grind arith)))
        (grind (arith, nat_tests, uses-append, directive-is, kind-snoc)));
  }
    where
      by : (us : List Token) → Holds line.Empty Ends us
          → (before : List Token) → (b : Bool) → HasInnerEndsAsDirective texts (before ++ t ∷ [])
          → uses_in_directive texts (before ++ t ∷ []) ≡ cond b (t ∷ []) [] → R.holds (t ∷ (use_fault b n ++ us))
          ((before ++ t ∷ []) ∷ parts.lines_of_c texts [] (use_fault b n ++ us))
      by us next before x inner uses = grind arith
