-- What one step of the lexer does to the text, the tokens and the occurrences.
use Rattle.std.proofs.Common.{rules}
use Rattle.std.proofs.lemmas.Bool.Decides.{nat_tests}
use Rattle.std.proofs.Common.{◌≡◌, ◌<◌, ℕ, zero, suc, List, [], ◌∷◌, ◌++◌, length, drop, map}
use Rattle.std.proofs.Common.{option_to_list, refl, ap, ◌∙◌, arith, append_assoc, length-drop}
use Rattle.std.proofs.lemmas.List.{length_push}
use Rattle.tangle_lines.specs.Reading.{SourceLine}
use Rattle.tangle_lexer.specs.declared.modes.Mode.TheVariants as mode
use Rattle.tangle_lexer.specs.declared.modes.LexerState.{LexerState}
use Rattle.tangle_lexer.specs.declared.lexeme_kinds.LexemeKind.{LexemeKind}
use Rattle.tangle_lexer.specs.declared.tokens.Token.{Token}
use Rattle.tangle_text.specs.Text.{Cell}
use Rattle.tangle_lexer.specs.CText.{kind_at}
use Rattle.tangle_lexer.specs.Steps.{c_lexeme, lexeme_in, lexeme, lexemes, tokens_from, occurrences_from}
use Rattle.tangle_lexer.specs.Occurrences.{OccurrenceRead, occurrence_of}
use Rattle.tangle_lexer.specs.Reads.{IsRead, AddsOccurrence}
use Rattle.tangle_lexer.proofs.lemmas.OccurrencesCounted.{lexeme-keeps}

-- a lexeme of a C part is that of its kind
pub lexeme-here : (s : LexerState) (text : List Cell) (kind : LexemeKind)
    → s.mode ≡ mode.CPart → kind_at s.line.include text ≡ kind → lexeme s text ≡ c_lexeme kind s text
unfolding lexeme
lexeme-here s text kind m h = ap (λ x. lexeme_in x s text) m ∙ ap (λ x. c_lexeme x s text) h

pub lexemes-drop : (k : ℕ) (s : LexerState) (text : List Cell) → lexemes k s text ≡ lexemes 0 s (drop k text)
lexemes-drop zero s text = refl
lexemes-drop (suc k) s [] = refl
lexemes-drop (suc k) s (c ∷ cs) = lexemes-drop k s cs

pub tokens_from-step : (s : LexerState) (text : List Cell) → 0 < length text → tokens_from s text
    ≡ (lexeme s text).tokens ++ tokens_from (lexeme s text).after (drop (lexeme s text).more (drop 1 text))
unfolding tokens_from
tokens_from-step s text h = grind (arith, nat_tests, lexemes-drop)

pub occurrences_from-step : (s : LexerState) (text : List Cell) → 0 < length text → occurrences_from s text
    ≡ option_to_list (lexeme s text).occurrence
    ++ occurrences_from (lexeme s text).after (drop (lexeme s text).more (drop 1 text))
unfolding occurrences_from
occurrences_from-step s text h = grind (arith, nat_tests, lexemes-drop)

-- a step was read
module _ {from to : List Token} (s : LexerState) {after : LexerState} {text rest : List Cell}
    (read : IsRead from to text rest after (lexeme s text)) where
  -- a step makes the text ahead shorter
  pub step-shorter : 0 < length text → length rest < length text
  step-shorter h = grind (arith, nat_tests, length-drop)

  -- a step does not change the list of the occurrences read and those ahead
  pub step-occurrences : (lines : List SourceLine) (old new : List OccurrenceRead) → 0 < length text
      → AddsOccurrence lines old new (lexeme s text).occurrence
      → new ++ map (occurrence_of lines) (occurrences_from after rest)
      ≡ old ++ map (occurrence_of lines) (occurrences_from s text)
  step-occurrences lines old new h adds = search (rules, occurrences_from-step, append_assoc)

  -- the number of occurrences that were read grows by one with each name
  pub step-count : (lines : List SourceLine) (old new : List OccurrenceRead)
      → AddsOccurrence lines old new (lexeme s text).occurrence
      → s.occurrences ≡ length old → after.occurrences ≡ length new
  step-count lines old new adds before = search (rules, lexeme-keeps, length_push)
