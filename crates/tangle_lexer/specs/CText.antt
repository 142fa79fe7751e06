-- C text: what begins at a position, and what is read there.
use Rattle.std.specs.Prelude.{ℕ, ◌+◌, Bool, false, ◌==◌, ◌&&◌, ◌||◌, List, [], ◌∷◌, take, drop}
use Rattle.std.specs.Prelude.{if◌then◌else◌, Option, Some, None}
use Rattle.tangle_lines.specs.Bytes.{at_sign, double_quote, is_white}
use Rattle.tangle_faults.specs.declared.faults.FaultKind.{FaultKind}
use Rattle.tangle_faults.specs.declared.faults.FaultKind.TheVariants as fault
use Rattle.tangle_text.specs.declared.regions.Region.TheVariants as region
use Rattle.tangle_lexer.specs.declared.modes.Mode.TheVariants as mode
use Rattle.tangle_lexer.specs.declared.modes.IncludeState.{IncludeState}
use Rattle.tangle_lexer.specs.declared.modes.IncludeState.TheVariants as include
use Rattle.tangle_lexer.specs.declared.modes.LineState.{LineState}
use Rattle.tangle_lexer.specs.declared.modes.LexerState.{LexerState}
use Rattle.tangle_lexer.specs.declared.lexeme_kinds.ControlCode.{ControlCode}
use Rattle.tangle_lexer.specs.declared.lexeme_kinds.ControlCode.TheVariants as code
use Rattle.tangle_lexer.specs.declared.lexeme_kinds.LexemeKind.{LexemeKind}
use Rattle.tangle_lexer.specs.declared.lexeme_kinds.LexemeKind.TheVariants as lexeme_kind
use Rattle.tangle_lexer.specs.declared.tokens.SpanKind.TheVariants as span_kind
use Rattle.tangle_lexer.specs.declared.tokens.Token.TheVariants as token
use Rattle.tangle_text.specs.Bytes.{asterisk, slash, less_sign, left_parenthesis, equals_sign}
use Rattle.tangle_text.specs.Bytes.{greater_sign, number_sign, backslash, apostrophe, holds}
use Rattle.tangle_text.specs.Bytes.{is_word_byte, lower}
use Rattle.tangle_text.specs.Text.{Cell, byte_at, bytes_of, front_line, span_at}
use Rattle.tangle_text.specs.Regions.{count_before}
use Rattle.tangle_lexer.specs.LinesOfC as lines_of_c
use Rattle.tangle_lexer.specs.Lexemes.{Lexeme, lexeme_of, in_mode, with_line, elsewhere}
use Rattle.tangle_lexer.specs.Lexemes.{white_lexeme, fault_if, is_in_directive}
use Rattle.tangle_lexer.specs.Comments.{block_comment, line_comment, control_text}
use Rattle.tangle_lexer.specs.Quoted.{quoted_text, verbatim_text}
use Rattle.tangle_lexer.specs.Constants.{ascii_constant}
use Rattle.tangle_text.specs.Words.{is_include_word, word_more}

-- what begins at a position

-- the control code that @ makes with this byte, which is not a capital letter
abbrev pub code_of : ℕ → ControlCode
code_of b =
    if is_white b || b == asterisk then code.SectionStart else
    if b == at_sign then code.DoubleAt else
    if b == 100 then code.Macro else  -- @d
    if b == 102 || b == 115 then code.Format else  -- @f @s
    if b == 99 || b == 112 then code.UnnamedPart else  -- @c @p
    if b == less_sign || b == left_parenthesis then code.Name else  -- @< @(
    if b == 94 || b == 46 || b == 58 || b == 116 || b == 113
    then code.ControlText else  -- @^ @. @: @t @q
    if b == equals_sign then code.Verbatim else  -- @=
    if b == 38 then code.Join else  -- @&
    if b == 104 then code.AllMacros else  -- @h
    if b == apostrophe then code.AsciiConstant else code.Other  -- @'

-- the control code that @ makes with the next cell; a capital letter counts as its small letter
abbrev pub code_at : Option ℕ → ControlCode
code_at None = code.SectionStart
code_at (Some b) = code_of (lower b)

-- < opens a quoted text only after #include
abbrev pub less_kind : IncludeState → LexemeKind
less_kind include.AfterInclude = lexeme_kind.HeaderName
less_kind _ = lexeme_kind.Other

-- what begins with the byte `b`, which is not @, before the cell `next`
abbrev pub byte_kind : IncludeState → ℕ → Option ℕ → LexemeKind
byte_kind inc b next =
    if b == slash && holds asterisk next then lexeme_kind.BlockComment else
    if b == slash && holds slash next then lexeme_kind.LineComment else
    if b == double_quote then lexeme_kind.DoubleQuote else
    if b == apostrophe then lexeme_kind.Apostrophe else
    if b == less_sign then less_kind inc else
    if is_white b then lexeme_kind.White else
    if is_word_byte b then lexeme_kind.Word else lexeme_kind.Other

-- what begins in C text with these two cells
abbrev pub kind_by : IncludeState → Option ℕ → Option ℕ → LexemeKind
kind_by inc None next = lexeme_kind.LineEnd
kind_by inc (Some b) next =
    if b == at_sign then lexeme_kind.Control (code_at next) else byte_kind inc b next

abbrev pub kind_at : IncludeState → List Cell → LexemeKind
kind_at inc text = kind_by inc (byte_at 0 text) (byte_at 1 text)

-- words and signs

-- after a sign: # can only begin #include if nothing but white space is before it on the line
abbrev pub include_after_sign : Option ℕ → IncludeState → IncludeState
include_after_sign b include.AtStart =
    if holds number_sign b then include.AfterNumberSign else include.Elsewhere
include_after_sign b _ = include.Elsewhere

-- after a word: include completes #include if only white space is between # and this word
abbrev pub include_after_word : Bool → IncludeState → IncludeState
include_after_word is_include include.AfterNumberSign =
    if is_include then include.AfterInclude else include.Elsewhere
include_after_word is_include _ = include.Elsewhere

-- the line after a sign, of which this is the first byte
abbrev pub line_after_sign : Option ℕ → LineState → LineState
line_after_sign b l =
    lines_of_c.after_item (include_after_sign b l.include) (holds number_sign b) (holds backslash b)
    l

-- the line after a word
abbrev pub line_after_word : Bool → LineState → LineState
line_after_word is_include l =
    lines_of_c.after_item (include_after_word is_include l.include) false false l

-- a word: the cells up to the first without a word byte; a number goes on over separators
abbrev pub word : LexerState → List Cell → Lexeme
word s text =
    lexeme_of (token.Span span_kind.Word (span_at (1 + word_more text) text) ∷ []) (word_more text)
    (with_line
    (line_after_word (is_include_word (bytes_of (take (1 + word_more text) text))) s.line) s)

-- white space: the cells up to the first without white space
abbrev pub white_space : LexerState → List Cell → Lexeme
white_space s text = lexeme_of (token.White ∷ []) (count_before region.White (drop 1 text)) s

-- a control code that is a fault of this kind, and white space
abbrev pub code_fault : FaultKind → LexerState → List Cell → Lexeme
code_fault kind s text = white_lexeme [] (token.Fault kind (front_line s.last_line text) ∷ []) 1 s

-- A section start. Only the @ is read: the byte after it is skipped as documentation.
abbrev pub section_start : LexerState → Lexeme
section_start s = lexeme_of (token.Section ∷ []) 0 (in_mode mode.Documentation s)

-- A control code in C text, where `used` is what the use of a name reads.
abbrev pub code_lexeme : Lexeme → ControlCode → LexerState → List Cell → Lexeme
code_lexeme used code.SectionStart s text = section_start s
-- @@ is the sign @
code_lexeme used code.DoubleAt s text =
    lexeme_of (token.Span span_kind.Sign (span_at 1 text) ∷ []) 1 (elsewhere s)
-- @d @f @s @c @p
code_lexeme used code.Macro s text = code_fault fault.CodeInC s text
code_lexeme used code.Format s text = code_fault fault.CodeInC s text
code_lexeme used code.UnnamedPart s text = code_fault fault.CodeInC s text
-- @< @(
code_lexeme used code.Name s text = used
-- @^ @. @: @t @q
code_lexeme used code.ControlText s text = control_text s text
-- @=
code_lexeme used code.Verbatim s text = verbatim_text s text
-- @&
code_lexeme used code.Join s text =
    lexeme_of (token.Join ∷ []) 1 (with_line (lines_of_c.after_join s.line) s)
-- @h
code_lexeme used code.AllMacros s text =
    lexeme_of
    (token.AllMacros (front_line s.last_line text)
    ∷ fault_if (is_in_directive s) fault.UseInDirective (front_line s.last_line text))
    1 (with_line lines_of_c.after_use s)
-- @'
code_lexeme used code.AsciiConstant s text = ascii_constant s text
-- other control codes are white space
code_lexeme used code.Other s text = lexeme_of (token.White ∷ []) 1 s

-- A lexeme of C text, by its kind, where `used` is what the use of a name reads.
abbrev pub kind_lexeme : Lexeme → LexemeKind → LexerState → List Cell → Lexeme
kind_lexeme used (lexeme_kind.Control code) s text = code_lexeme used code s text
kind_lexeme used lexeme_kind.BlockComment s text = block_comment s text
kind_lexeme used lexeme_kind.LineComment s text = line_comment s text
kind_lexeme used lexeme_kind.DoubleQuote s text = quoted_text region.DoubleQuote double_quote s text
kind_lexeme used lexeme_kind.Apostrophe s text = quoted_text region.Apostrophe apostrophe s text
kind_lexeme used lexeme_kind.HeaderName s text = quoted_text region.HeaderName greater_sign s text
kind_lexeme used lexeme_kind.LineEnd s text =
    lexeme_of (token.LineEnd (front_line s.last_line text) ∷ []) 0 (with_line (lines_of_c.after_line_end s.line) s)
kind_lexeme used lexeme_kind.White s text = white_space s text
kind_lexeme used lexeme_kind.Word s text = word s text
-- any other byte is a sign
kind_lexeme used lexeme_kind.Other s text =
    lexeme_of (token.Span span_kind.Sign (span_at 1 text) ∷ []) 0
    (with_line (line_after_sign (byte_at 0 text) s.line) s)
