-- Lexemes whose tokens are plain, and which leave the mode and the count of occurrences unchanged.
use Rattle.std.proofs.Common.{rules}
use Rattle.std.proofs.lemmas.Bool.Decides.{nat_tests}
use Rattle.std.proofs.Common.{arith}
use Rattle.std.proofs.Common.{◌≡◌, ℕ, List, ◌++◌, None}
use Rattle.tangle_faults.specs.declared.faults.FaultKind.{FaultKind}
use Rattle.tangle_faults.specs.declared.faults.FaultKind.TheVariants as fault
use Rattle.tangle_text.specs.declared.regions.Region.{Region}
use Rattle.tangle_text.specs.Text.{Cell, front_line}
use Rattle.tangle_lexer.specs.declared.lexeme_kinds.ControlCode.TheVariants as code
use Rattle.tangle_lexer.specs.declared.lexeme_kinds.LexemeKind.{LexemeKind}
use Rattle.tangle_lexer.specs.declared.lexeme_kinds.LexemeKind.TheVariants as lexeme_kind
use Rattle.tangle_lexer.specs.declared.modes.LexerState.{LexerState}
use Rattle.tangle_lexer.specs.Lexemes.{Lexeme, fault_if, is_in_directive}
use Rattle.tangle_lexer.specs.Names.{name_faults, mention_faults, has_single_equals, after_name}
use Rattle.tangle_lexer.specs.Quoted.{quoted_text}
use Rattle.tangle_lexer.specs.CText.{code_fault}
use Rattle.tangle_lexer.specs.Steps.{c_lexeme}
use Rattle.tangle_lexer.proofs.lemmas.LexemeCases.{IsPlainKind}
use Rattle.tangle_lexer.proofs.lemmas.PlainTokens.{ArePlain, plain-append, fault_if-plain, white-plain}
use Rattle.tangle_lexer.proofs.lemmas.PlainTokens.{line_ends-plain, verbatim_tokens-text, cut_tokens-text}
use Rattle.tangle_lexer.proofs.lemmas.PlainTokens.{text-plain, AreText}

pub record IsPlainLexeme (s : LexerState) (here : Lexeme) : Type 0 where
  pub tokens : ArePlain here.tokens
  pub mode : here.after.mode ≡ s.mode
  pub none : here.occurrence ≡ None
  pub count : here.after.occurrences ≡ s.occurrences

-- the faults of a name that is used
pub use-plain : (s : LexerState) (text : List Cell)
    → ArePlain (fault_if (is_in_directive s) fault.UseInDirective (front_line s.last_line text)
    ++ name_faults s.last_line text
    ++ fault_if (has_single_equals (after_name text)) fault.NameEquals (front_line s.last_line text))
use-plain s text = grind (arith, nat_tests, plain-append, fault_if-plain)

-- the faults of a name that is mentioned
pub mention-plain : (s : LexerState) (text : List Cell) → ArePlain (mention_faults s text)
mention-plain s text = grind (arith, nat_tests, plain-append, fault_if-plain)

pub quoted-text : (r : Region) (close : ℕ) (s : LexerState) (text : List Cell)
    → AreText (quoted_text r close s text).tokens
quoted-text r close s text = grind (arith, nat_tests, cut_tokens-text)

quoted-plain : (r : Region) (close : ℕ) (s : LexerState) (text : List Cell)
    → IsPlainLexeme s (quoted_text r close s text)
quoted-plain r close s text = grind (arith, nat_tests, text-plain, quoted-text)

pub fault-plain : (kind : FaultKind) (s : LexerState) (text : List Cell) → IsPlainLexeme s (code_fault kind s text)
fault-plain kind s text = search rules

pub kind-plain : (kind : LexemeKind) (s : LexerState) (text : List Cell)
    → IsPlainKind kind → IsPlainLexeme s (c_lexeme kind s text)
kind-plain (lexeme_kind.Control code.SectionStart) s text h = absurd h
kind-plain (lexeme_kind.Control code.Name) s text h = absurd h
kind-plain (lexeme_kind.Control kind) s text h =
    search (rules, white-plain, line_ends-plain, fault_if-plain, text-plain, verbatim_tokens-text)
kind-plain _ s text h = search (rules, white-plain, line_ends-plain, fault_if-plain, quoted-plain)
