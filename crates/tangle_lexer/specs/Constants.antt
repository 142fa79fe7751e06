-- ASCII constants: the value of a character, and the number of its cells.
use Rattle.std.specs.Prelude.{ℕ, ◌+◌, ◌-◌, ◌*◌, ◌==◌, nat_le, not, ◌||◌, List, [], ◌∷◌, drop}
use Rattle.std.specs.Prelude.{if◌then◌else◌, Option, Some, None, unwrap_or}
use Rattle.tangle_lexer.specs.declared.constants.AsciiConstant.{AsciiConstant}
use Rattle.tangle_faults.specs.declared.faults.FaultKind.TheVariants as fault
use Rattle.tangle_text.specs.declared.regions.Region.TheVariants as region
use Rattle.tangle_lexer.specs.declared.modes.LexerState.{LexerState}
use Rattle.tangle_lexer.specs.declared.tokens.Token.TheVariants as token
use Rattle.tangle_lines.specs.Bytes.{at_sign, double_quote}
use Rattle.tangle_text.specs.Bytes.{backslash, apostrophe, holds, is_octal}
use Rattle.tangle_text.specs.Text.{Cell, byte_at, front_line}
use Rattle.tangle_text.specs.Regions.{count_before}
use Rattle.tangle_lexer.specs.Quoted.{one_if}
use Rattle.tangle_lexer.specs.Lexemes.{Lexeme, lexeme_of, elsewhere, white_lexeme}

-- the value of the escape sequence of a backslash and this byte, if a constant may have it
abbrev pub escape_of : ℕ → Option ℕ
escape_of b =
    if b == 97 then Some 7 else  -- \a
    if b == 98 then Some 8 else  -- \b
    if b == 116 then Some 9 else  -- \t
    if b == 110 then Some 10 else  -- \n
    if b == 118 then Some 11 else  -- \v
    if b == 102 then Some 12 else  -- \f
    if b == 114 then Some 13 else  -- \r
    if b == double_quote || b == apostrophe || b == 63 || b == backslash then Some b else None

abbrev pub escape_value : Option ℕ → Option ℕ
escape_value None = None
escape_value (Some b) = escape_of b

-- the constant of a character that has this value and number of cells, if an apostrophe follows
abbrev pub if_closed : Option ℕ → ℕ → List Cell → Option AsciiConstant
if_closed None count text = None
if_closed (Some value) count text =
    if holds apostrophe (byte_at count text) then Some (record { value = value; count = count })
    else None

-- the value of the octal digit at this distance from the front
abbrev pub digit_at : ℕ → List Cell → ℕ
digit_at k text = unwrap_or (byte_at k text) 48 - 48

-- if_closed for a value that may be too large for a byte
abbrev pub if_byte : ℕ → ℕ → List Cell → Option AsciiConstant
if_byte value count text = if_closed (if nat_le value 255 then Some value else None) count text

-- a backslash and all octal digits after it, up to three; their value is at most 255
abbrev pub octal_constant : List Cell → Option AsciiConstant
octal_constant text =
    if not (is_octal (byte_at 2 text)) then if_byte (digit_at 1 text) 2 text else
    if not (is_octal (byte_at 3 text)) then if_byte (8 * digit_at 1 text + digit_at 2 text) 3 text
    else if_byte (64 * digit_at 1 text + 8 * digit_at 2 text + digit_at 3 text) 4 text

-- the constant of a character that begins with a backslash
abbrev pub escaped_constant : List Cell → Option AsciiConstant
escaped_constant text =
    if is_octal (byte_at 1 text) then octal_constant text
    else if_closed (escape_value (byte_at 1 text)) 2 text

-- the character is @@, a backslash with what it escapes, or any other byte but an apostrophe
abbrev pub constant_by : Option ℕ → List Cell → Option AsciiConstant
constant_by None text = None
constant_by (Some b) text =
    if b == at_sign
    then if_closed (if holds at_sign (byte_at 1 text) then Some at_sign else None) 2 text else
    if b == backslash then escaped_constant text else
    if b == apostrophe then None else if_closed (Some b) 1 text

-- the constant after @'
abbrev pub constant_at : List Cell → Option AsciiConstant
constant_at text = constant_by (byte_at 0 text) text

-- A bad constant is white space through the next apostrophe on the line, or up to the line end. The
-- control codes in it are white space too, since otherwise one mistake could be several faults.
abbrev pub bad_constant : LexerState → List Cell → Lexeme
bad_constant s text =
    let inside : ℕ = count_before region.BadConstant (drop 2 text) in
    white_lexeme [] (token.Fault fault.AsciiBad (front_line s.last_line text) ∷ [])
    (1 + inside + one_if (holds apostrophe (byte_at 0 (drop inside (drop 2 text))))) s

abbrev pub constant_lexeme : Option AsciiConstant → LexerState → List Cell → Lexeme
constant_lexeme None s text = bad_constant s text
constant_lexeme (Some constant) s text =
    lexeme_of (token.AsciiConstant constant.value (front_line s.last_line text) ∷ [])
    (2 + constant.count) (elsewhere s)

-- @' with the constant after it, or with the fault of a bad one
abbrev pub ascii_constant : LexerState → List Cell → Lexeme
ascii_constant s text = constant_lexeme (constant_at (drop 2 text)) s text
