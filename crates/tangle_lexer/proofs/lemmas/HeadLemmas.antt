-- A head is the only token of its lexeme, no lexeme has a run, and a C part begins with a head.
use Rattle.std.proofs.lemmas.Bool.Decides.{nat_tests}
use Rattle.std.proofs.Common.{arith}
use Rattle.std.proofs.Common.{◌≡◌, ℕ, Bool, true, false, ◌||◌, List, [], ◌∷◌, Option, ◌⊎◌, inl, inr, refl}
use Rattle.std.proofs.Common.{sym, ap}
use Rattle.tangle_lexer.specs.declared.modes.Mode.{Mode}
use Rattle.tangle_lexer.specs.declared.modes.Mode.TheVariants as mode
use Rattle.tangle_lexer.specs.declared.modes.LexerState.{LexerState}
use Rattle.tangle_lexer.specs.declared.tokens.Token.{Token}
use Rattle.tangle_lexer.specs.declared.tokens.Token.TheVariants as token
use Rattle.tangle_text.specs.Text.{Cell}
use Rattle.tangle_lexer.specs.LinesOfC.{front}
use Rattle.tangle_lexer.specs.Lexemes.{Lexeme, is_c_part}
use Rattle.tangle_faults.specs.declared.faults.FaultKind.TheVariants as fault
use Rattle.tangle_lexer.specs.Names.{definition_or_mention, definition_count}
use Rattle.tangle_lexer.specs.Steps.{lexeme}
use Rattle.tangle_lexer.proofs.lemmas.PlainTokens.{HasNone, none-by, ArePlain, fault_if-plain}
use Rattle.tangle_lexer.proofs.lemmas.PlainLexemes.{IsPlainLexeme, use-plain, mention-plain, fault-plain, kind-plain}
use Rattle.tangle_lexer.proofs.lemmas.LexemeCases.{lexeme-by}
use Rattle.tangle_lexer.specs.Heads.{is_head}
use Rattle.tangle_lexer.specs.Runs.{is_run}

-- a head or a run
abbrev pub is_special : Token → Bool
is_special t = is_head t || is_run t

-- the mode after a head
abbrev pub mode_after : Token → Mode
mode_after (token.MacroStart line) = mode.Macro
mode_after (token.UnnamedPart line) = mode.CPart
mode_after (token.NamedPart line occurrence) = mode.CPart
mode_after _ = mode.Documentation

-- a lexeme without heads and runs, in which no C part begins or ends
abbrev pub IsPlain : LexerState → Lexeme → Type 0
IsPlain s l = HasNone is_special l.tokens × (is_c_part l.after.mode ≡ is_c_part s.mode)

-- a lexeme that consists of a head
abbrev pub IsHead : Lexeme → Type 0
IsHead l =
    (head : Token) × (l.tokens ≡ head ∷ []) × (is_head head ≡ true)
    × (l.after.mode ≡ mode_after head) × (l.after.line ≡ front)

-- the tokens of the lexeme have no head, or consist of one head, and none of them is a run
abbrev pub IsHeadAlone : LexerState → Lexeme → Type 0
IsHeadAlone s l = IsPlain s l ⊎ IsHead l

-- plain tokens are neither heads nor runs
plain-special : (ts : List Token) → ArePlain ts → HasNone is_special ts
plain-special ts h = grind (arith, nat_tests, none-by)

plain-alone : (s : LexerState) (l : Lexeme) → IsPlainLexeme s l → IsHeadAlone s l
plain-alone s l h = inl (plain-special l.tokens h.tokens, ap is_c_part h.mode)

name-alone : (found : Option ℕ) (s : LexerState) (text : List Cell) → is_c_part s.mode ≡ false
    → IsHeadAlone s (definition_or_mention found s text)
name-alone found s text out = grind (arith, nat_tests, plain-special, mention-plain)

pub lexeme-alone : (s : LexerState) (text : List Cell) → IsHeadAlone s (lexeme s text)
lexeme-alone s text =
    lexeme-by (IsHeadAlone s) s text (record {
      section = inr (_, refl, refl, refl, refl);
      macro = λ o. inr (_, refl, refl, refl, refl);
      part = λ o. inr (_, refl, refl, refl, refl);
      used = λ m o. inl (plain-special _ (use-plain s text), refl);
      name = λ out. name-alone (definition_count text) s text out;
      limbo = λ m is_fault. inl (plain-special _ (fault_if-plain is_fault fault.LimboCode _), refl);
      skip = λ out n. inl (refl, refl);
      format = λ m. inl (refl, sym (ap is_c_part m));
      misplaced = λ m o. plain-alone s _ (fault-plain fault.MisplacedH s text);
      inside = λ within kind p o. plain-alone s _ (kind-plain kind s text p);
    })
