-- Worked webs: why the law of kinds names `''`, header names and quoted texts that do not end; and
-- numbers with apostrophes.
use Rattle.std.proofs.Common.{rules}
use Rattle.std.proofs.Common.{◌≡◌, ℕ, true, false, List, [], ◌∷◌, ◌++◌, codes, map, flat_map}
use Rattle.tangle_lines.specs.Reading.{SourceLine}
use Rattle.tangle_text.specs.Text.{texts_of}
use Rattle.tangle_lexer.specs.declared.tokens.Token.{Token}
use Rattle.tangle_lexer.specs.declared.tokens.Token.TheVariants as token
use Rattle.tangle_lexer.specs.declared.tokens.SpanKind.{SpanKind}
use Rattle.tangle_lexer.specs.declared.tokens.SpanKind.TheVariants as span_kind
use Rattle.tangle_lexer.specs.Steps.{lexeme, tokens_from, all_tokens}
use Rattle.tangle_scan.specs.MacroBytes.{macro_bytes}
use Rattle.tangle_scan.specs.Web.{blocks, macro_of}
use Rattle.tangle_scan.specs.ReadAsMeant.{token_bytes, all_macro_tokens}
use Rattle.c_tokens.specs.Grammar.{is_element, is_token, is_punctuator}
use Rattle.c_tokens.specs.Reading.{spliced, tokens}
use Rattle.c_tokens.specs.Borders.{is_whole}
use Rattle.c_tokens.specs.Touching.{is_plain}
use Rattle.tangle_c_tokens.specs.Kinds.{is_header_name}

abbrev line : List ℕ → SourceLine
line bytes = record { bytes = bytes; origin = record { file = 0; line = 1 }; changed = false }

-- a source with one macro
abbrev source : List (List ℕ) → List SourceLine
source texts = map line (codes "@ A." ∷ texts)

-- the texts of the tokens of its macro, of which white space, line ends and faults have none
abbrev items : List (List ℕ) → List (List ℕ)
items texts =
    let lines : List SourceLine = source texts in
    flat_map (λ ts. map (λ t. token_bytes (texts_of lines) (λ t. []) t) ts) (all_macro_tokens lines)

-- what is written for its macro
abbrev written : List (List ℕ) → List ℕ
written texts =
    let lines : List SourceLine = source texts in
    flat_map (λ b. flat_map (macro_bytes (texts_of lines)) (macro_of lines b)) (blocks 0 (all_tokens lines))

-- a span of the second line, on which the macro is
abbrev span : SpanKind → ℕ → ℕ → Token
span kind start end = token.Span kind (record { line = 1; start = start; end = end })

record Examples : Type 0 where
  -- The ranges of a text make one text.
  pub ranges : items (codes "@d F \"a@@b\\" ∷ codes "c\"" ∷ [])
      ≡ codes "F" ∷ [] ∷ codes "\"a@" ∷ codes "b\\" ∷ codes "\n" ∷ codes "c\"" ∷ [] ∷ []
  pub ranges_together : is_plain (spliced (codes "\"a@b\\\nc\"")) ≡ true
  -- A header name is not plain: C reads `>` and what follows as one, except in a directive.
  pub header_name : written (codes "@d F a" ∷ codes "#include <b>" ∷ codes "= c" ∷ [])
      ≡ codes "#define F a\\\n#include <b>\\\n= c\n"
  pub header_name_read : tokens (codes "<b>" ++ codes "\\\n= c") ≡ codes "<" ∷ codes "b" ∷ codes ">=" ∷ codes "c" ∷ []
  pub header_name_alone : tokens (codes "<b>") ++ tokens (codes "= c")
      ≡ codes "<" ∷ codes "b" ∷ codes ">" ∷ codes "=" ∷ codes "c" ∷ []
  -- An empty character constant is not plain: its second apostrophe begins another constant.
  pub empty_constant : written (codes "@d F ''" ∷ codes "+'x'" ∷ []) ≡ codes "#define F ''\\\n+'x'\n"
  pub empty_constant_read : tokens (codes "''" ++ codes "\\\n+'x'") ≡ codes "'" ∷ codes "'+'" ∷ codes "x" ∷ codes "'" ∷ []
  pub empty_constant_alone : tokens (codes "''") ++ tokens (codes "+'x'")
      ≡ codes "'" ∷ codes "'" ∷ codes "+" ∷ codes "'x'" ∷ []
  -- A text that does not end is a fault, and not plain: it may end in what follows.
  pub open_quote : written (codes "@d F \"a" ∷ codes "+\"" ∷ []) ≡ codes "#define F \"a\\\n+\"\n"
  pub open_quote_read : tokens (codes "\"a" ++ codes "\\\n+\"") ≡ codes "\"a+\"" ∷ []
  -- A header name ends at its first `>`.
  pub header_name_ends : (is_header_name (codes "<b>") ≡ true) × (is_header_name (codes "<b>c>") ≡ false)
  -- A number goes on over an apostrophe between two of its digits, and not over one after a sign.
  pub separator : items (codes "@d F 10'000+'x'" ∷ [])
      ≡ codes "F" ∷ [] ∷ codes "10'000" ∷ codes "+" ∷ codes "'x'" ∷ [] ∷ []
  -- White space is put between an ASCII constant and a character constant.
  pub constants : all_macro_tokens (source (codes "@d F @'A''b'" ∷ []))
      ≡ (span span_kind.Word 3 4 ∷ token.White ∷ token.AsciiConstant 65 1 ∷ token.White
      ∷ span span_kind.Quoted 9 12 ∷ token.LineEnd 1 ∷ []) ∷ []
  pub constants_read : tokens (codes "65 'b'") ≡ codes "65" ∷ codes "'b'" ∷ []
  pub constants_together : tokens (codes "65'b'") ≡ codes "65'b" ∷ codes "'" ∷ []
  -- A join puts a character constant directly after a number. Both are one group, which is not whole.
  pub joined : written (codes "@d F 8@&'9'" ∷ []) ≡ codes "#define F 8'9'\n"
  pub joined_read : tokens (codes "8'9'") ≡ codes "8'9" ∷ codes "'" ∷ []
  pub joined_refused : is_whole (codes "8'9'") ≡ false

examples : Examples
unfolding lexeme tokens_from is_element is_token is_punctuator
examples = search rules
