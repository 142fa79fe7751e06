-- What the steps of the lexer do: they add tokens and occurrences, and pass over cells.
use Rattle.std.specs.Prelude.{◌≡◌, ℕ, ◌+◌, List, [], ◌∷◌, ◌++◌, drop, true, Option, Some, None}
use Rattle.std.specs.List.{All}
use Rattle.tangle_lines.specs.Reading.{SourceLine}
use Rattle.tangle_lexer.specs.declared.tokens.Token.{Token}
use Rattle.tangle_lexer.specs.declared.modes.LexerState.{LexerState}
use Rattle.tangle_text.specs.Text.{Cell, front_line, texts_of, IsRestOf}
use Rattle.tangle_lexer.specs.declared.modes.Mode.{Mode}
use Rattle.tangle_lexer.specs.declared.modes.Mode.TheVariants as mode
use Rattle.tangle_lexer.specs.declared.tokens.LexerBuffers.{LexerBuffers}
use Rattle.tangle_lexer.specs.declared.names.Equals.{Equals}
use Rattle.tangle_lexer.specs.declared.names.Equals.TheVariants as equals
use Rattle.tangle_lexer.specs.Lexemes.{Lexeme, OccurrenceOnLine}
use Rattle.tangle_lexer.specs.Occurrences.{OccurrenceRead, occurrence_of}
use Rattle.tangle_lexer.specs.Heads.{HasNoHead}
use Rattle.tangle_lexer.specs.Runs.{unfolded, first_is_alone, IsRunIn}
use Rattle.tangle_lexer.specs.Steps.{tokens_from, occurrences_from}

-- A lexeme was read: its tokens were added, its cells were removed from the text ahead, and the
-- state is the one after it.
pub record IsRead (old new : List Token) (text rest : List Cell)
    (after : LexerState) (lexeme : Lexeme) : Type 0 where
  pub tokens : new ≡ old ++ lexeme.tokens
  pub ahead : rest ≡ drop lexeme.more (drop 1 text)
  pub state : after ≡ lexeme.after

-- The equals sign of a definition was read, with the cells before it: `before` of all these are
-- before its last one, and `line` is the line of that. If no equals sign follows, nothing was read.
abbrev pub PassesEquals : Equals → ℕ → ℕ → List Cell → List Cell → Option ℕ → Type 0
PassesEquals equals.Absent before last text rest line = (rest ≡ text) × (line ≡ None)
PassesEquals _ before last text rest line =
    (rest ≡ drop (before + 1) text) × (line ≡ Some (front_line last (drop before text)))

-- the occurrence of a lexeme was added after the others, if the lexeme is a name
abbrev pub AddsOccurrence : List SourceLine → List OccurrenceRead
    → List OccurrenceRead → Option OccurrenceOnLine → Type 0
AddsOccurrence lines old new None = new ≡ old
AddsOccurrence lines old new (Some occurrence) = new ≡ old ++ occurrence_of lines occurrence ∷ []

-- A lexeme was read, with its tokens and its occurrence.
pub record ReadsLexeme (lines : List SourceLine) (old new : LexerBuffers)
    (text rest : List Cell) (after : LexerState) (lexeme : Lexeme) : Type 0 where
  pub read : IsRead old.tokens.items new.tokens.items text rest after lexeme
  pub occurrences : AddsOccurrence lines old.occurrences.items
      new.occurrences.items lexeme.occurrence

-- Text of these lines was read: its tokens were added, some as runs, and it has no occurrences.
pub record ReadsOn (lines : List SourceLine) (old new : List Token)
    (from after : LexerState) (text rest : List Cell) : Type 0 where
  pub tokens : unfolded (texts_of lines) new ++ tokens_from after rest
      ≡ unfolded (texts_of lines) old ++ tokens_from from text
  pub runs : All (IsRunIn (texts_of lines)) old → All (IsRunIn (texts_of lines)) new
  pub occurrences : occurrences_from after rest ≡ occurrences_from from text
  pub ours : IsRestOf lines rest

-- No head was added, and outside of C parts no run before the first item.
pub record AddsSimple (m : Mode) (old new : List Token) : Type 0 where
  pub no_head : HasNoHead old → HasNoHead new
  pub alone : (m ≡ mode.CPart → ⊥) → first_is_alone old ≡ true → first_is_alone new ≡ true
