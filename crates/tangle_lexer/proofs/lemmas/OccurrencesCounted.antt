-- Occurrences are numbered one after another, so their numbers in tokens are below their count.
use Rattle.std.proofs.Common.{rules}
use Rattle.std.proofs.Common.{◌≡◌, ◌≤◌, ◌<◌, ℕ, zero, suc, ◌+◌, false, List, [], ◌∷◌, ◌++◌, length}
use Rattle.std.proofs.Common.{flat_map, refl, ap, arith, Option, None, Some, option_to_list}
use Rattle.std.proofs.Common.{length-append}
use Rattle.std.specs.List.{list_any, AllByRecursion}
use Rattle.tangle_lexer.specs.declared.tokens.Token.{Token}
use Rattle.tangle_lexer.specs.declared.tokens.Token.TheVariants as token
use Rattle.tangle_lexer.specs.declared.modes.LexerState.{LexerState}
use Rattle.tangle_text.specs.Text.{Cell}
use Rattle.tangle_lexer.specs.Lexemes.{Lexeme}
use Rattle.tangle_lexer.specs.Names.{definition_or_mention, use_of_name}
use Rattle.tangle_lexer.specs.Steps.{lexeme, lexemes, tokens_from, occurrences_from}
use Rattle.tangle_lexer.proofs.lemmas.PlainTokens.{ArePlain, is_not_plain, fault_if-plain}
use Rattle.tangle_lexer.proofs.lemmas.PlainLexemes.{IsPlainLexeme, use-plain, mention-plain, fault-plain, kind-plain}
use Rattle.tangle_lexer.proofs.lemmas.LexemeCases.{lexeme-by}

-- a token has no number of an occurrence, or one below `count`
abbrev pub IsBelow : ℕ → Token → Type 0
IsBelow count (token.UseOf line occurrence) = occurrence < count
IsBelow count (token.NamedPart line occurrence) = occurrence < count
IsBelow count _ = Unit {0}

abbrev pub AreBelow : ℕ → List Token → Type 0
AreBelow count ts = AllByRecursion (IsBelow count) ts

pub all-append : {A : Type 0} (P : A → Type 0) (xs ys : List A)
    → AllByRecursion P xs → AllByRecursion P ys → AllByRecursion P (xs ++ ys)
all-append P [] ys h k = k
all-append P (x ∷ xs) ys h k = (h.0, all-append P xs ys h.1 k)

-- a lexeme adds its occurrence to the count, and the numbers in its tokens are below the new count
pub record Keeps (s : LexerState) (l : Lexeme) : Type 0 where
  pub count : l.after.occurrences ≡ s.occurrences + length (option_to_list l.occurrence)
  pub below : AreBelow (s.occurrences + length (option_to_list l.occurrence)) l.tokens

plain-below : (count : ℕ) (ts : List Token) → list_any is_not_plain ts ≡ false → AreBelow count ts
plain-below count [] h = tt
plain-below count (t ∷ ts) h = grind (arith, plain-below count ts)

-- a lexeme without an occurrence
plain-keeps : (s : LexerState) (l : Lexeme)
    → l.occurrence ≡ None → l.after.occurrences ≡ s.occurrences → ArePlain l.tokens → Keeps s l
plain-keeps s l none same q = record {
  count = omega (arith, ap (λ n. length (option_to_list n)) none);
  below = plain-below _ l.tokens q.none;
}

lexeme-plain : (s : LexerState) (l : Lexeme) → IsPlainLexeme s l → Keeps s l
lexeme-plain s l h = plain-keeps s l h.none h.count h.tokens

name-keeps : (count : Option ℕ) (s : LexerState) (text : List Cell) → Keeps s (definition_or_mention count s text)
name-keeps None s text =
    record { count = refl; below = plain-below (s.occurrences + 1) _ (mention-plain s text).none }
name-keeps (Some count) s text = record { count = refl; below = (omega arith, tt) }

used-keeps : (s : LexerState) (text : List Cell) → Keeps s (use_of_name s text)
used-keeps s text = record { count = refl; below = (omega arith, plain-below (s.occurrences + 1) _ (use-plain s text).none) }

pub lexeme-keeps : (s : LexerState) (text : List Cell) → Keeps s (lexeme s text)
lexeme-keeps s text =
    lexeme-by (Keeps s) s text
    (search (rules, used-keeps, name-keeps, plain-keeps, fault_if-plain, lexeme-plain, fault-plain, kind-plain))

-- all lexemes of a text

below-more : (few many : ℕ) (ts : List Token) → few ≤ many → AreBelow few ts → AreBelow many ts
below-more few many [] h k = tt
below-more few many (t ∷ ts) h k = ((grind arith), below-more few many ts h k.1)

lexemes-below : (k : ℕ) (s : LexerState) (text : List Cell) (count : ℕ)
    → count ≡ s.occurrences + length (flat_map (λ l. option_to_list l.occurrence) (lexemes k s text))
    → AreBelow count (flat_map (λ l. l.tokens) (lexemes k s text))
lexemes-below k s [] count is = tt
lexemes-below (suc k) s (c ∷ cs) count is = lexemes-below k s cs count is
lexemes-below zero s (c ∷ cs) count is =
    let here : Lexeme = lexeme s (c ∷ cs) in
    let keeps = lexeme-keeps s (c ∷ cs) in
    let more = flat_map (λ l. option_to_list l.occurrence) (lexemes here.more here.after cs) in
    let lengths = length-append (option_to_list here.occurrence) more in
    all-append (IsBelow count) here.tokens (flat_map (λ l. l.tokens) (lexemes here.more here.after cs))
    (below-more _ count here.tokens (omega arith) keeps.below)
    (lexemes-below here.more here.after cs count (omega arith))

pub tokens-below : (s : LexerState) (text : List Cell)
    → AreBelow (s.occurrences + length (occurrences_from s text)) (tokens_from s text)
unfolding tokens_from occurrences_from
tokens-below s text = lexemes-below 0 s text _ refl
