-- Simple lexemes: words, white space, signs and line ends of C text.
use Rattle.std.proofs.Common.{rules}
use Rattle.std.proofs.lemmas.Bool.Decides.{nat_tests}
use Rattle.std.proofs.Common.{◌≡◌, ◌<◌, ℕ, true, List, [], ◌∷◌, length}
use Rattle.std.proofs.Common.{arith, Some, ◌++◌}
use Rattle.std.specs.Option.{IfSome}
use Rattle.tangle_lexer.specs.declared.modes.LexerState.{LexerState}
use Rattle.tangle_lexer.specs.declared.modes.LineState.{LineState}
use Rattle.tangle_lexer.specs.declared.simple.SimpleLexeme.{SimpleLexeme}
use Rattle.tangle_text.specs.Text.{Cell, byte_at}
use Rattle.tangle_lexer.specs.Lexemes.{with_line}
use Rattle.tangle_lexer.specs.Steps.{occurrences_from, lexeme, c_lexeme}
use Rattle.tangle_lexer.specs.Simple.{IsSimple, simple_of, simple_kind, is_c_text}
use Rattle.tangle_lexer.specs.declared.tokens.Token.{Token}
use Rattle.tangle_lexer.specs.Reads.{IsRead, AddsSimple}
use Rattle.tangle_lexer.proofs.lemmas.HeadLemmas.{is_special}
use Rattle.tangle_lexer.proofs.lemmas.PlainTokens.{HasNone, none-append}
use Rattle.tangle_lexer.proofs.lemmas.BlockLemmas.{alone-append}
use Rattle.tangle_lexer.specs.declared.modes.Mode.{Mode}
use Rattle.tangle_lexer.proofs.lemmas.StepLemmas.{occurrences_from-step}

pub simple-again : (old new : List Token) (l : LineState)
    (s state after : LexerState) (text rest : List Cell) (p : SimpleLexeme) → state ≡ with_line l s
    → IsRead old new text rest after (c_lexeme (simple_kind p) state text) →
    IsRead old new text rest (with_line after.line s) (c_lexeme (simple_kind p) (with_line l s) text)
simple-again old new l s state after text rest p is read = grind (arith, nat_tests)

-- a simple lexeme is the same in C parts and in macros
module _ (s : LexerState) (text : List Cell) (p : SimpleLexeme)
    (here : IsSimple text p) (h : is_c_text s.mode ≡ true) where
  pub lexeme-simple : lexeme s text ≡ c_lexeme (simple_kind p) s text
  unfolding lexeme
  lexeme-simple = grind (arith, nat_tests)

  pub simple-special : HasNone is_special (lexeme s text).tokens
  simple-special = grind (arith, nat_tests, lexeme-simple)

  module _ (old new : List Token) (after : LexerState) (rest : List Cell)
      (read : IsRead old new text rest after (c_lexeme (simple_kind p) s text)) where
    pub simple-read : IsRead old new text rest after (lexeme s text)
    simple-read = grind (arith, nat_tests, lexeme-simple)

    pub simple-occurrences_from : occurrences_from after rest ≡ occurrences_from s text
    simple-occurrences_from = search (rules, lexeme-simple, occurrences_from-step)

-- the tokens that a simple lexeme and a run add

pub simple-adds : (m : Mode) (old new : List Token) (s : LexerState) (text : List Cell) (p : SimpleLexeme)
    → new ≡ old ++ (c_lexeme (simple_kind p) s text).tokens → AddsSimple m old new
simple-adds m old new s text x is = grind (arith, nat_tests, none-append, alone-append)

-- the kind of a lexeme that begins with a byte that opens nothing longer

some-inside : (text : List Cell) (b : ℕ) → byte_at 0 text ≡ Some b → 0 < length text
some-inside [] b h = cc
some-inside (c ∷ cs) b h = omega arith

pub simple-is : (text : List Cell) (b : ℕ)
    → byte_at 0 text ≡ Some b → IfSome (simple_of b) (λ simple. IsSimple text simple)
simple-is text b is = grind (arith, nat_tests, some-inside text b is)
