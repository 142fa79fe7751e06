-- The four modes: what is read at a position.
use Rattle.std.specs.Prelude.{ℕ, zero, suc, ◌-◌, Bool, ◌==◌, List, [], ◌∷◌, length}
use Rattle.std.specs.Prelude.{map, flat_map, drop, if◌then◌else◌, Option, Some, None}
use Rattle.std.specs.Prelude.{option_to_list, codes, not, false}
use Rattle.std.specs.List.{list_any}
use Rattle.tangle_lines.specs.Bytes.{at_sign}
use Rattle.tangle_lines.specs.Reading.{SourceLine}
use Rattle.tangle_faults.specs.declared.faults.FaultKind.TheVariants as fault
use Rattle.tangle_text.specs.declared.regions.Region.TheVariants as region
use Rattle.tangle_lexer.specs.declared.modes.Mode.{Mode}
use Rattle.tangle_lexer.specs.declared.modes.Mode.TheVariants as mode
use Rattle.tangle_lexer.specs.declared.modes.LexerState.{LexerState}
use Rattle.tangle_lexer.specs.declared.lexeme_kinds.ControlCode.{ControlCode}
use Rattle.tangle_lexer.specs.declared.lexeme_kinds.ControlCode.TheVariants as code
use Rattle.tangle_lexer.specs.declared.lexeme_kinds.LexemeKind.{LexemeKind}
use Rattle.tangle_lexer.specs.declared.lexeme_kinds.LexemeKind.TheVariants as lexeme_kind
use Rattle.tangle_lexer.specs.declared.tokens.Token.{Token}
use Rattle.tangle_lexer.specs.declared.tokens.Token.TheVariants as token
use Rattle.tangle_text.specs.Bytes.{holds, lower}
use Rattle.tangle_text.specs.Text.{Cell, byte_at, front_line, text_from}
use Rattle.tangle_text.specs.Regions.{count_before}
use Rattle.tangle_lexer.specs.LinesOfC.{front}
use Rattle.tangle_lexer.specs.Lexemes.{OccurrenceOnLine, Lexeme, lexeme_of, in_mode, fault_if}
use Rattle.tangle_lexer.specs.Comments.{starts_section}
use Rattle.tangle_lexer.specs.CText.{code_at, kind_at, section_start, code_fault, code_lexeme}
use Rattle.tangle_lexer.specs.CText.{kind_lexeme}
use Rattle.tangle_lexer.specs.Names.{use_of_name, name_in_documentation}

-- skips the first cell and the text after it up to an @
abbrev pub prose : LexerState → List Cell → Lexeme
prose s text = lexeme_of [] (count_before region.Prose (drop 1 text)) s

-- @@, @f, @s, @l, @q and @> may stand before the first section
abbrev pub is_limbo_code : Option ℕ → Bool
is_limbo_code None = false
is_limbo_code (Some b) = list_any (λ code. lower b == code) (codes "@fslq>")

-- a control code before the first section: it is skipped as two bytes, and may be a fault
abbrev pub limbo_code : Bool → LexerState → List Cell → Lexeme
limbo_code is_fault s text =
    lexeme_of (fault_if is_fault fault.LimboCode (front_line s.last_line text)) 1 s

-- Limbo: all is skipped up to the first section start. Most control codes are a fault there, since
-- what they begin would be lost.
abbrev pub limbo_lexeme : LexerState → List Cell → Lexeme
limbo_lexeme s text =
    if starts_section text then section_start s else
    if holds at_sign (byte_at 0 text)
    then limbo_code (not (is_limbo_code (byte_at 1 text))) s text
    else prose s text

-- A control code in documentation.
abbrev pub documentation_code : ControlCode → LexerState → List Cell → Lexeme
documentation_code code.SectionStart s text = section_start s
-- @d begins a macro
documentation_code code.Macro s text =
    lexeme_of (token.MacroStart (front_line s.last_line text) ∷ []) 1 (in_mode mode.Macro s)
-- @c and @p begin an unnamed C part
documentation_code code.UnnamedPart s text =
    lexeme_of (token.UnnamedPart (front_line s.last_line text) ∷ []) 1 (in_mode mode.CPart s)
-- @< and @( begin a C part of that name if an equals sign follows, and otherwise mention the name
documentation_code code.Name s text = name_in_documentation s text
-- all other control codes are skipped
documentation_code _ s text = lexeme_of [] 1 s

-- a control code in C text
abbrev pub c_code : ControlCode → LexerState → List Cell → Lexeme
c_code code s text = code_lexeme (use_of_name s text) code s text

-- a lexeme of C text, by its kind
abbrev pub c_lexeme : LexemeKind → LexerState → List Cell → Lexeme
c_lexeme kind s text = kind_lexeme (use_of_name s text) kind s text

-- A macro is read as C text, except for @h and for the control codes that end the macro and then
-- act as in documentation.
abbrev pub macro_code : ControlCode → LexerState → List Cell → Lexeme
macro_code code.Macro s text = documentation_code code.Macro s text
macro_code code.UnnamedPart s text = documentation_code code.UnnamedPart s text
macro_code code.Name s text = documentation_code code.Name s text
-- @f and @s lead back to documentation
macro_code code.Format s text = lexeme_of [] 1 (in_mode mode.Documentation s)
-- @h is a fault and white space
macro_code code.AllMacros s text = code_fault fault.MisplacedH s text
macro_code other s text = c_code other s text

abbrev pub macro_lexeme : LexemeKind → LexerState → List Cell → Lexeme
macro_lexeme (lexeme_kind.Control code) s text = macro_code code s text
macro_lexeme other s text = c_lexeme other s text

-- the lexeme at the front of the text in a mode
abbrev pub lexeme_in : Mode → LexerState → List Cell → Lexeme
lexeme_in mode.Limbo s text = limbo_lexeme s text
lexeme_in mode.Documentation s text =
    if holds at_sign (byte_at 0 text) then documentation_code (code_at (byte_at 1 text)) s text
    else prose s text
lexeme_in mode.CPart s text = c_lexeme (kind_at s.line.include text) s text
lexeme_in mode.Macro s text = macro_lexeme (kind_at s.line.include text) s text

unfoldable pub lexeme : LexerState → List Cell → Lexeme
lexeme s text = lexeme_in s.mode s text

-- where a lexeme begins: the state there, and the text from there on
pub record LexemeStart : Type 0 where
  pub state : LexerState
  pub text : List Cell

-- Where the lexemes of a text begin: each where the one before ended. `k` cells at the front belong
-- to an earlier lexeme.
abbrev pub lexeme_starts : ℕ → LexerState → List Cell → List LexemeStart
lexeme_starts k s [] = []
lexeme_starts (suc k) s (c ∷ cs) = lexeme_starts k s cs
lexeme_starts zero s (c ∷ cs) =
    let here : Lexeme = lexeme s (c ∷ cs) in
    record { state = s; text = c ∷ cs } ∷ lexeme_starts here.more here.after cs

-- the lexemes of a text
abbrev pub lexemes : ℕ → LexerState → List Cell → List Lexeme
lexemes k s text = map (λ start. lexeme start.state start.text) (lexeme_starts k s text)

-- the tokens from a position on, in this state
unfoldable pub tokens_from : LexerState → List Cell → List Token
tokens_from s text = flat_map (λ l. l.tokens) (lexemes 0 s text)

-- the occurrences of names from a position on
unfoldable pub occurrences_from : LexerState → List Cell → List OccurrenceOnLine
occurrences_from s text = flat_map (λ l. option_to_list l.occurrence) (lexemes 0 s text)

-- the state before the first line of a source with this number of lines
abbrev pub first_state : ℕ → LexerState
first_state count =
    record { mode = mode.Limbo; line = front; occurrences = 0; last_line = count - 1 }

-- the tokens and the occurrences of a whole source
abbrev pub all_tokens : List SourceLine → List Token
all_tokens lines = tokens_from (first_state (length lines)) (text_from 0 lines)

abbrev pub all_occurrences : List SourceLine → List OccurrenceOnLine
all_occurrences lines = occurrences_from (first_state (length lines)) (text_from 0 lines)
