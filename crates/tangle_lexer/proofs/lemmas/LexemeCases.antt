-- The cases of a lexeme, by the mode and by the first two cells.
use Rattle.std.proofs.Common.{rules}
use Rattle.std.proofs.Common.{arith}
use Rattle.std.proofs.Common.{◌≡◌, ℕ, Bool, true, false, ◌&&◌, ◌==◌, Option, Some, None, List, [], refl}
use Rattle.std.proofs.lemmas.Bool.{cond_both}
use Rattle.tangle_faults.specs.declared.faults.FaultKind.TheVariants as fault
use Rattle.tangle_lines.specs.Bytes.{at_sign}
use Rattle.tangle_lexer.specs.declared.modes.Mode.{Mode}
use Rattle.tangle_lexer.specs.declared.modes.Mode.TheVariants as mode
use Rattle.tangle_lexer.specs.declared.modes.LexerState.{LexerState}
use Rattle.tangle_lexer.specs.declared.modes.IncludeState.{IncludeState}
use Rattle.tangle_lexer.specs.declared.lexeme_kinds.ControlCode.TheVariants as code
use Rattle.tangle_lexer.specs.declared.lexeme_kinds.LexemeKind.{LexemeKind}
use Rattle.tangle_lexer.specs.declared.lexeme_kinds.LexemeKind.TheVariants as lexeme_kind
use Rattle.tangle_text.specs.Bytes.{asterisk, slash, holds, holds_white, are_bytes, is_line_end}
use Rattle.tangle_text.specs.Text.{Cell, byte_at}
use Rattle.tangle_lexer.specs.Lexemes.{Lexeme, lexeme_of, in_mode}
use Rattle.tangle_lexer.specs.Names.{use_of_name, name_in_documentation}
use Rattle.tangle_lexer.specs.Segments.{OpensWith}
use Rattle.tangle_lexer.specs.Lexemes.{is_c_part}
use Rattle.tangle_lexer.specs.Simple.{is_c_text}
use Rattle.tangle_lexer.specs.CText.{code_at, kind_by, section_start, code_fault}
use Rattle.tangle_lexer.specs.Steps.{documentation_code}
use Rattle.tangle_lexer.specs.Steps.{limbo_code, c_lexeme, macro_lexeme, lexeme_in, lexeme}

-- what the first two cells of a lexeme of this kind are
abbrev pub Opens : LexemeKind → Option ℕ → Option ℕ → Type 0
Opens (lexeme_kind.Control code) b next = (holds at_sign b ≡ true) × (code_at next ≡ code)
Opens lexeme_kind.BlockComment b next = are_bytes slash asterisk b next ≡ true
Opens lexeme_kind.LineComment b next = are_bytes slash slash b next ≡ true
Opens lexeme_kind.LineEnd b next = is_line_end b ≡ true
Opens lexeme_kind.White b next = holds_white b ≡ true
Opens _ b next = (is_line_end b ≡ false) × (holds at_sign b ≡ false)

-- a text begins with a lexeme of this kind
abbrev pub OpensLexeme : LexemeKind → List Cell → Type 0
OpensLexeme kind text = Opens kind (byte_at 0 text) (byte_at 1 text)

pub kind-opens : (inc : IncludeState) (b next : Option ℕ) → Opens (kind_by inc b next) b next
kind-opens inc None next = refl
kind-opens inc (Some b) next =
    let P : LexemeKind → Type 0 = λ k. Opens k (Some b) next in
    cond_both (b == at_sign) (lexeme_kind.Control (code_at next)) _ P (λ e. (e, refl)) (λ other.
    cond_both (b == slash && holds asterisk next) lexeme_kind.BlockComment _ P (λ e. e) (λ e.
    cond_both (b == slash && holds slash next) lexeme_kind.LineComment _ P (λ e. e) (search rules)))

-- lexemes of C text that begin no section and are no use of a name
abbrev pub IsPlainKind : LexemeKind → Type 0
IsPlainKind (lexeme_kind.Control code.SectionStart) = ⊥
IsPlainKind (lexeme_kind.Control code.Name) = ⊥
IsPlainKind _ = Unit {0}

-- `P` is true of the lexeme at the front of a text if it is true in each of these cases
pub record LexemeCases (P : Lexeme → Type 0) (s : LexerState) (text : List Cell) : Type 0 where
  pub section : P (section_start s)
  -- heads, in documentation or at the end of a macro
  pub macro : OpensWith code.Macro text → P (documentation_code code.Macro s text)
  pub part : OpensWith code.UnnamedPart text → P (documentation_code code.UnnamedPart s text)
  -- names
  pub used : s.mode ≡ mode.CPart → OpensWith code.Name text → P (use_of_name s text)
  pub name : is_c_part s.mode ≡ false → P (name_in_documentation s text)
  -- outside of C text
  pub limbo : s.mode ≡ mode.Limbo → (is_fault : Bool) → P (limbo_code is_fault s text)
  pub skip : is_c_text s.mode ≡ false → (n : ℕ) → P (lexeme_of [] n s)
  -- @f and @s, which end a macro
  pub format : s.mode ≡ mode.Macro → P (lexeme_of [] 1 (in_mode mode.Documentation s))
  -- @h in a macro
  pub misplaced : s.mode ≡ mode.Macro → OpensWith code.AllMacros text → P (code_fault fault.MisplacedH s text)
  -- all other lexemes of C text
  pub inside : is_c_text s.mode ≡ true
      → (kind : LexemeKind) → IsPlainKind kind → OpensLexeme kind text → P (c_lexeme kind s text)

module _ (P : Lexeme → Type 0) (s : LexerState) (text : List Cell) (by : LexemeCases P s text) where
  c-by : (kind : LexemeKind) → s.mode ≡ mode.CPart → OpensLexeme kind text → P (c_lexeme kind s text)
  c-by kind m o = grind arith

  macro-by : (kind : LexemeKind) → s.mode ≡ mode.Macro → OpensLexeme kind text → P (macro_lexeme kind s text)
  macro-by kind m o = grind arith

  mode-by : (m : Mode) → s.mode ≡ m → P (lexeme_in m s text)
  mode-by mode.CPart m = search (rules, c-by, kind-opens)
  mode-by mode.Macro m = search (rules, macro-by, kind-opens)
  mode-by _ m = search rules

  pub lexeme-by : P (lexeme s text)
  unfolding lexeme
  lexeme-by = mode-by s.mode refl
