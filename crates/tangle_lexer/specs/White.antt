-- White space of C text that ends on its line and without a fault, as a head may have it.
use Rattle.std.specs.Prelude.{ℕ, zero, suc, ◌+◌, Bool, false, true, List, [], ◌∷◌, drop}
use Rattle.std.specs.Prelude.{if◌then◌else◌}
use Rattle.tangle_lexer.specs.declared.modes.Mode.TheVariants as mode
use Rattle.tangle_lexer.specs.declared.modes.IncludeState.TheVariants as include
use Rattle.tangle_lexer.specs.declared.modes.LexerState.{LexerState}
use Rattle.tangle_lexer.specs.declared.lexeme_kinds.LexemeKind.{LexemeKind}
use Rattle.tangle_lexer.specs.declared.tokens.Token.{Token}
use Rattle.tangle_lexer.specs.declared.tokens.Token.TheVariants as token
use Rattle.tangle_text.specs.Text.{Cell}
use Rattle.tangle_lexer.specs.LinesOfC.{after_use}
use Rattle.tangle_lexer.specs.Lexemes.{Lexeme, lexeme_of}
use Rattle.tangle_lexer.specs.CText.{kind_at, kind_lexeme}

-- the tokens of a lexeme are white space alone, without a line end and without a fault
abbrev pub is_white_alone : List Token → Bool
is_white_alone (token.White ∷ []) = true
is_white_alone _ = false

-- a position after a name in C text; the white space there is that of any other position
abbrev pub after_a_name : LexerState
after_a_name =
    record { mode = mode.CPart; line = after_use; occurrences = 0; last_line = 0 }

-- a lexeme of C text, by its kind; a name is not read
abbrev pub lexeme_but_name : LexemeKind → List Cell → Lexeme
lexeme_but_name kind text = kind_lexeme (lexeme_of [] 0 after_a_name) kind after_a_name text

-- the lexeme of C text at the front; a name is not read
abbrev pub next_but_name : List Cell → Lexeme
next_but_name text = lexeme_but_name (kind_at include.Elsewhere text) text

-- The number of cells of the white space at the front, up to the first lexeme that is not white
-- space alone. `k` cells at the front belong to a lexeme of it already.
abbrev pub white_count : ℕ → List Cell → ℕ
white_count k [] = 0
white_count (suc k) (c ∷ cs) = 1 + white_count k cs
white_count zero (c ∷ cs) =
    let here : Lexeme = next_but_name (c ∷ cs) in
    if is_white_alone here.tokens then 1 + white_count here.more cs else 0

-- the text after the white space at its front
abbrev pub white_end : List Cell → List Cell
white_end text = drop (white_count 0 text) text
