-- The tokens of a block: those before its head, in which runs stand for the tokens that they consist of.
use Rattle.std.proofs.Common.{rules}
use Rattle.std.proofs.lemmas.Bool.Decides.{nat_tests}
use Rattle.std.proofs.Common.{◌≡◌, ◌<◌, ℕ, ◌+◌, Bool, true, false, List, [], ◌∷◌, ◌++◌, length, drop}
use Rattle.std.proofs.Common.{refl, ap, sym, subst, ◌∙◌, ◌⊎◌, inl, inr, append_assoc, drop-drop, arith}
use Rattle.std.specs.List.{All}
use Rattle.std.proofs.lemmas.List.{same_from_push}
use Rattle.std.proofs.lemmas.List.Elements.{All-append, All-nil}
use Rattle.std.proofs.lemmas.Bool.{or_parts}
use Rattle.std.proofs.lemmas.Grind.{flat_map-append}
use Rattle.tangle_lines.specs.Reading.{SourceLine}
use Rattle.tangle_text.specs.Text.{Cell, IsRestOf}
use Rattle.tangle_lexer.specs.declared.modes.Mode.TheVariants as mode
use Rattle.tangle_lexer.specs.declared.modes.LexerState.{LexerState}
use Rattle.tangle_lexer.specs.declared.tokens.Token.{Token}
use Rattle.tangle_lexer.specs.Lexemes.{Lexeme}
use Rattle.tangle_lexer.specs.Heads.{is_head}
use Rattle.tangle_lexer.specs.Reads.{IsRead, ReadsOn}
use Rattle.tangle_lexer.specs.Runs.{is_run, has_item, first_is_alone, unfolded, unfolded_token, IsRunIn}
use Rattle.tangle_lexer.specs.Steps.{lexeme, tokens_from, occurrences_from}
use Rattle.tangle_lexer.proofs.lemmas.HeadLemmas.{is_special, mode_after, lexeme-alone}
use Rattle.tangle_lexer.proofs.lemmas.PlainTokens.{HasNone, none-append, none-by}
use Rattle.tangle_lexer.proofs.lemmas.StepLemmas.{tokens_from-step}

-- tokens that are no runs

pub no-head : (ts : List Token) → HasNone is_special ts → HasNone is_head ts
no-head = none-by is_special is_head (λ t h. (or_parts (is_head t) (is_run t) h).0)

pub no-run : (ts : List Token) → HasNone is_special ts → HasNone is_run ts
no-run = none-by is_special is_run (λ t h. (or_parts (is_head t) (is_run t) h).1)

pub unfolded-append : (texts : List (List ℕ)) (ts us : List Token)
    → unfolded texts (ts ++ us) ≡ unfolded texts ts ++ unfolded texts us
unfolded-append texts ts us = flat_map-append (unfolded_token texts) ts us

no-runs : (texts : List (List ℕ)) (ts : List Token) → HasNone is_run ts
    → (unfolded texts ts ≡ ts) × All (IsRunIn texts) ts × (first_is_alone ts ≡ true)
no-runs texts [] h = (refl, All-nil (IsRunIn texts), refl)
no-runs texts (t ∷ ts) h = grind (arith, nat_tests, no-runs texts ts)

-- Tokens are added, of which none is a run, or before which there is an item.

pub alone-append : (ts us : List Token) → HasNone is_run us ⊎ (has_item ts ≡ true) → first_is_alone ts ≡ true
    → first_is_alone (ts ++ us) ≡ true
alone-append [] us (inl none) h = (no-runs [] us none).2
alone-append [] us (inr some) h = cc
alone-append (t ∷ ts) us added h = grind (arith, nat_tests, alone-append ts us)

-- a rest of a rest of the text of lines is a rest of it
pub rest-drop : (lines : List SourceLine) (n : ℕ) (text : List Cell)
    → IsRestOf lines text → IsRestOf lines (drop n text)
rest-drop lines n text ours = (ours.0 + n, ap (drop n) ours.1 ∙ drop-drop n ours.0 _)

-- the tokens before a head that was removed

no_head-snoc : (ts : List Token) (head : Token) → is_head head ≡ true → HasNone is_head (ts ++ head ∷ []) → ⊥
no_head-snoc [] head h j = cc
no_head-snoc (t ∷ ts) head h j = grind (arith, nat_tests, no_head-snoc ts head h)

-- a head was removed: it is the lexeme, and the tokens are those from before
pub record IsTaken (old kept : List Token) (here : Lexeme) (head : Token) : Type 0 where
  pub same : kept ≡ old
  pub tokens : here.tokens ≡ head ∷ []
  pub begins : here.after.mode ≡ mode_after head

-- a step was read
module _ {old new : List Token} (s : LexerState) {after : LexerState} {text rest : List Cell}
    (read : IsRead old new text rest after (lexeme s text)) where
  -- a step whose tokens are no runs does not change the list of the tokens read and those ahead
  pub plain-tokens : (texts : List (List ℕ)) → 0 < length text → HasNone is_run (lexeme s text).tokens
      → unfolded texts new ++ tokens_from after rest ≡ unfolded texts old ++ tokens_from s text
  plain-tokens texts inside none =
      grind (arith, unfolded-append texts old, no-runs texts, append_assoc (unfolded texts old), tokens_from-step s text inside)

  pub plain-runs : (texts : List (List ℕ)) → HasNone is_run (lexeme s text).tokens
      → All (IsRunIn texts) old → All (IsRunIn texts) new
  plain-runs texts none runs =
      subst (All (IsRunIn texts)) (sym read.tokens)
      (All-append (IsRunIn texts) old (lexeme s text).tokens runs (no-runs texts (lexeme s text).tokens none).1)

  pub plain-none : (test : Token → Bool) → HasNone test (lexeme s text).tokens → HasNone test old → HasNone test new
  plain-none test here before = grind (arith, nat_tests, none-append)

  pub plain-alone : HasNone is_run (lexeme s text).tokens → first_is_alone old ≡ true → first_is_alone new ≡ true
  plain-alone here before = rw read.tokens (alone-append old (lexeme s text).tokens (inl here) before)

  pub read-ours : (lines : List SourceLine) → IsRestOf lines text → IsRestOf lines rest
  read-ours lines ours =
      subst (IsRestOf lines) (sym read.ahead)
      (rest-drop lines (lexeme s text).more (drop 1 text) (rest-drop lines 1 text ours))

  pub plain-reads-on : (lines : List SourceLine) → 0 < length text → HasNone is_run (lexeme s text).tokens
      → occurrences_from after rest ≡ occurrences_from s text → IsRestOf lines text
      → ReadsOn lines old new s after text rest
  plain-reads-on lines inside none occurrences ours = search (rules, plain-tokens, plain-runs, read-ours)

  -- no head was removed: the lexeme is none
  pub not-taken : ((ts : List Token) (head : Token) → new ≡ ts ++ head ∷ [] → is_head head ≡ false)
      → HasNone is_special (lexeme s text).tokens × (after.mode ≡ mode.CPart → s.mode ≡ mode.CPart)
  not-taken none = grind (arith, nat_tests, lexeme-alone s text)

  -- a head was removed
  pub taken : (kept : List Token) (head : Token) → HasNone is_head old
      → (new ≡ kept ++ head ∷ []) × (is_head head ≡ true) → IsTaken old kept (lexeme s text) head
  taken kept head none popped =
      grind (arith, lexeme-alone s text, no_head-snoc kept head popped.1, none-append is_head old, no-head, same_from_push kept old head)

  pub taken-tokens : (texts : List (List ℕ)) (kept : List Token) (head : Token) → 0 < length text
      → (new ≡ kept ++ head ∷ []) × (is_head head ≡ true) → IsTaken old kept (lexeme s text) head
      → unfolded texts kept ++ head ∷ [] ++ tokens_from after rest ≡ unfolded texts old ++ tokens_from s text
  taken-tokens texts kept head inside popped taken =
      grind (arith, unfolded-append texts kept (head ∷ []), plain-tokens texts inside)

-- one after another

pub reads-trans : (lines : List SourceLine) (ts us vs : List Token) (s t u : LexerState) (x y z : List Cell)
    → ReadsOn lines ts us s t x y → ReadsOn lines us vs t u y z → ReadsOn lines ts vs s u x z
reads-trans lines ts us vs s t u x y z first more = grind (arith, nat_tests)
