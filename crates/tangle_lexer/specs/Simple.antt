-- Simple lexemes, which most of C text consists of: words, white space, signs and line ends.
use Rattle.std.specs.Prelude.{◌≡◌, ◌<◌, ℕ, Bool, true, false, ◌&&◌, ◌||◌, not, List, length}
use Rattle.std.specs.Prelude.{if◌then◌else◌, Option, None, Some, IsSome}
use Rattle.tangle_lines.specs.Bytes.{is_white}
use Rattle.tangle_lexer.specs.declared.modes.Mode.{Mode}
use Rattle.tangle_lexer.specs.declared.modes.Mode.TheVariants as mode
use Rattle.tangle_lexer.specs.declared.modes.IncludeState.{IncludeState}
use Rattle.tangle_lexer.specs.declared.modes.IncludeState.TheVariants as include
use Rattle.tangle_lexer.specs.declared.simple.SimpleLexeme.{SimpleLexeme}
use Rattle.tangle_lexer.specs.declared.simple.SimpleLexeme.TheVariants as simple
use Rattle.tangle_lexer.specs.declared.lexeme_kinds.LexemeKind.{LexemeKind}
use Rattle.tangle_lexer.specs.declared.lexeme_kinds.LexemeKind.TheVariants as lexeme_kind
use Rattle.tangle_text.specs.Bytes.{number_sign, holds, is_opener, is_word_byte}
use Rattle.tangle_text.specs.Text.{Cell, byte_at}
use Rattle.tangle_text.specs.Runs.{holds_plain}
use Rattle.tangle_lexer.specs.Lexemes.{is_c_part}
use Rattle.tangle_lexer.specs.declared.tokens.Token.{Token}
use Rattle.tangle_lexer.specs.Runs.{has_item}
use Rattle.tangle_lexer.specs.CText.{kind_at}

-- the simple lexeme that begins with a byte, unless the byte may open something longer
abbrev pub simple_of : ℕ → Option SimpleLexeme
simple_of b =
    if is_opener b then None else
    if is_white b then Some simple.White else
    if is_word_byte b then Some simple.Word else Some simple.Sign

abbrev pub simple_kind : SimpleLexeme → LexemeKind
simple_kind simple.Word = lexeme_kind.Word
simple_kind simple.White = lexeme_kind.White
simple_kind simple.Sign = lexeme_kind.Other
simple_kind simple.LineEnd = lexeme_kind.LineEnd

abbrev pub is_word_or_sign : SimpleLexeme → Bool
is_word_or_sign simple.Word = true
is_word_or_sign simple.Sign = true
is_word_or_sign _ = false

-- this simple lexeme is at the front, however much of #include was read
pub record IsSimple (text : List Cell) (kind : SimpleLexeme) : Type 0 where
  pub inside : 0 < length text
  pub lexeme_kind : (inc : IncludeState) → kind_at inc text ≡ simple_kind kind
  pub byte : (kind ≡ simple.LineEnd → ⊥) → IsSome (byte_at 0 text)
  pub plain : is_word_or_sign kind ≡ true → holds_plain (byte_at 0 text) ≡ true

-- the modes in which C text is read
abbrev pub is_c_text : Mode → Bool
is_c_text mode.CPart = true
is_c_text mode.Macro = true
is_c_text _ = false

-- runs

-- No #include was begun on the line, and neither #include nor a directive begins with this byte.
abbrev pub is_apart : IncludeState → Option ℕ → Bool
is_apart include.AtStart b = not (holds number_sign b)
is_apart include.Elsewhere b = not (holds number_sign b)
is_apart _ b = false

-- a run may begin with a simple lexeme that begins with this byte: in a macro after its first item
abbrev pub begins_run : List Token → Mode → IncludeState → SimpleLexeme → Option ℕ → Bool
begins_run tokens m inc kind b =
    is_word_or_sign kind && is_apart inc b && (is_c_part m || has_item tokens)
