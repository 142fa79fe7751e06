-- Lexemes: what one step of the lexer reads, and the state after it.
use Rattle.std.specs.Prelude.{ℕ, Bool, true, false, ◌&&◌, List, [], ◌∷◌, ◌++◌, map, if◌then◌else◌}
use Rattle.std.specs.Prelude.{Option, None}
use Rattle.tangle_faults.specs.declared.faults.FaultKind.{FaultKind}
use Rattle.tangle_lexer.specs.declared.occurrences.OccurrenceRole.{OccurrenceRole}
use Rattle.tangle_lexer.specs.declared.modes.Mode.{Mode}
use Rattle.tangle_lexer.specs.declared.modes.Mode.TheVariants as mode
use Rattle.tangle_lexer.specs.declared.modes.IncludeState.TheVariants as include
use Rattle.tangle_lexer.specs.declared.modes.LineState.{LineState}
use Rattle.tangle_lexer.specs.declared.modes.LexerState.{LexerState}
use Rattle.tangle_lexer.specs.declared.tokens.Token.{Token}
use Rattle.tangle_lexer.specs.declared.tokens.Token.TheVariants as token
use Rattle.tangle_text.specs.Bytes.{is_line_end}
use Rattle.tangle_lexer.specs.LinesOfC as lines_of_c

-- an occurrence of a section name as it is read: the text of the name, whether @( opens it, its
-- role, and the line of its first byte
pub record OccurrenceOnLine : Type 0 where
  pub text : List ℕ
  pub is_file : Bool
  pub role : OccurrenceRole
  pub line : ℕ

-- What one step reads at the front of the text: its tokens, its occurrence if it is a name, the
-- number of its cells after the first one, and the state after it.
pub record Lexeme : Type 0 where
  pub tokens : List Token
  pub occurrence : Option OccurrenceOnLine
  pub more : ℕ
  pub after : LexerState

-- a lexeme without an occurrence
abbrev pub lexeme_of : List Token → ℕ → LexerState → Lexeme
lexeme_of tokens more after =
    record { tokens = tokens; occurrence = None; more = more; after = after }

-- a part in this mode begins: #include may be the first thing in it
abbrev pub in_mode : Mode → LexerState → LexerState
in_mode mode s = record s { mode = mode; line = lines_of_c.front }

abbrev pub with_line : LineState → LexerState → LexerState
with_line l s = record s { line = l }

-- the state after an item that is no part of #include and ends in no backslash
abbrev pub elsewhere : LexerState → LexerState
elsewhere s = with_line (lines_of_c.after_item include.Elsewhere false false s.line) s

abbrev pub is_c_part : Mode → Bool
is_c_part mode.CPart = true
is_c_part _ = false

-- a position is in a directive of a C part; macros have none
abbrev pub is_in_directive : LexerState → Bool
is_in_directive s = is_c_part s.mode && lines_of_c.is_directive_line s.line.line

abbrev pub fault_if : Bool → FaultKind → ℕ → List Token
fault_if b kind line = if b then token.Fault kind line ∷ [] else []

-- a line end of the part, if the cell is one
abbrev pub line_end_by : Option ℕ → ℕ → List Token
line_end_by b line = if is_line_end b then token.LineEnd line ∷ [] else []

-- white space, with its line ends and its faults
abbrev pub white_lexeme : List Token → List Token → ℕ → LexerState → Lexeme
white_lexeme line_ends faults more s =
    let in_directive : Bool = is_in_directive s in
    lexeme_of (token.White ∷ map (lines_of_c.inner_end_in in_directive) line_ends ++ faults) more
    (with_line (lines_of_c.after_line_ends in_directive line_ends s.line) s)
