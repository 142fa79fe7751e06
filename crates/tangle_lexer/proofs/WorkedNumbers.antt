-- Worked lines with digit separators and quoted texts: words, signs and quoted texts of C parts, and sizes of runs.
use Rattle.std.proofs.Common.{◌≡◌, ℕ, List, [], ◌∷◌, flat_map, refl, codes}
use Rattle.tangle_text.specs.Text.{span_text}
use Rattle.tangle_text.specs.Runs.{run_size}
use Rattle.tangle_lexer.specs.declared.tokens.Token.{Token}
use Rattle.tangle_lexer.specs.declared.tokens.Token.TheVariants as token
use Rattle.tangle_lexer.specs.Steps.{lexeme, tokens_from, all_tokens}
use Rattle.tangle_lexer.proofs.WorkedLines.{source}

abbrev span_bytes : List (List ℕ) → Token → List (List ℕ)
span_bytes texts (token.Span kind s) = span_text texts s ∷ []
span_bytes texts _ = []

-- the bytes of the spans of the tokens
abbrev spans : List (List ℕ) → List (List ℕ)
spans texts = flat_map (span_bytes texts) (all_tokens (source texts))

-- a number goes on over an apostrophe between two word bytes, whatever bytes they are
numbers :
    spans (codes "@ A." ∷ codes "@c 10'000+0xF'F-1'000'u8" ∷ codes "1'_2 3'$4" ∷ [])
    ≡ codes "10'000" ∷ codes "+" ∷ codes "0xF'F" ∷ codes "-" ∷ codes "1'000'u8" ∷ codes "1'_2" ∷ codes "3'$4" ∷ []
unfolding lexeme tokens_from
numbers = refl

-- a word that begins with a letter ends before the apostrophe, and so does a number before an apostrophe that no word
-- byte follows, or that another one is before
others :
    spans (codes "@ A." ∷ codes "@c u'a  b' x1'c  d'" ∷ codes "3' e  f' 4'' 5'6'  '" ∷ [])
    ≡ codes "u" ∷ codes "'a  b'" ∷ codes "x1" ∷ codes "'c  d'" ∷ codes "3" ∷ codes "' e  f'" ∷ codes "4" ∷ codes "''"
    ∷ codes "5'6" ∷ codes "'  '" ∷ []
unfolding lexeme tokens_from
others = refl

-- a part after a full stop is no word of its own, and an apostrophe on the next line belongs to no number
apart :
    spans (codes "@ A." ∷ codes "@c 0x1.F'F  p' 7" ∷ codes "'8'" ∷ [])
    ≡ codes "0x1" ∷ codes "." ∷ codes "F" ∷ codes "'F  p'" ∷ codes "7" ∷ codes "'8'" ∷ []
unfolding lexeme tokens_from
apart = refl

-- a run ends before a word that a quoted text follows, and before the space in front of it
run_before_number : run_size 0 (codes "a = b 10'000") ≡ 5
run_before_number = refl

run_at_number : run_size 0 (codes "10'000 + 1") ≡ 0
run_at_number = refl

run_before_word : run_size 0 (codes "x+3' e'") ≡ 2
run_before_word = refl

-- a run goes over quoted texts that close on their line and have no `@`
run_with_texts : run_size 0 (codes "f(\"a  \\\"\", '\\'') x") ≡ 18
run_with_texts = refl

run_with_others : run_size 0 (codes "a + \"b") ≡ 3
run_with_others = refl
