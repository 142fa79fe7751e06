-- The three kinds of quoted texts of a web: string literals, character constants and header names.
use Rattle.std.proofs.lemmas.Bool.{cases_Bool}
use Rattle.std.proofs.Common.{rules}
use Rattle.std.proofs.Common.{arith}
use Rattle.std.proofs.Common.{◌≡◌, inl, inr, ℕ, Bool, true, false, List, ◌∷◌, Some, refl, ap, ◌∙◌}
use Rattle.std.specs.Prelude.{◌==◌, codes}
use Rattle.std.specs.Str.{bytes_eq}
use Rattle.tangle_lines.specs.Bytes.{double_quote}
use Rattle.tangle_text.specs.declared.regions.Region.{Region}
use Rattle.tangle_text.specs.declared.regions.Region.TheVariants as region
use Rattle.tangle_text.specs.Bytes.{apostrophe, less_sign, greater_sign, backslash}
use Rattle.c_tokens.specs.Bytes.{line_feed}
use Rattle.tangle_text.specs.Text.{Cell}
use Rattle.tangle_lexer.specs.declared.modes.LexerState.{LexerState}
use Rattle.tangle_lexer.specs.declared.tokens.Token.{Token}
use Rattle.tangle_lexer.specs.Quoted.{quoted_text}
use Rattle.tangle_lexer.proofs.laws.CutTexts.{double_quote-cut, apostrophe-cut}
use Rattle.tangle_scan.specs.Rules.{without_faults}
use Rattle.c_tokens.specs.Grammar.{ends_quoted}
use Rattle.c_tokens.specs.Reading.{spliced}
use Rattle.tangle_c_tokens.specs.Edges.{last_byte_passes}
use Rattle.tangle_c_tokens.specs.Kinds.{ends_header_name, is_header_name, IsQuoted}
use Rattle.tangle_c_tokens.specs.Kinds.{IsQuotedText}
use Rattle.tangle_c_tokens.proofs.kind_lemmas.Lines.{AreClear}
use Rattle.tangle_lexer.proofs.laws.Points.{Point, IsTextAt}
use Rattle.tangle_c_tokens.proofs.kind_lemmas.QuotedTexts.{IsQuoteRegion, IsByUnits, text-whole}
use Rattle.tangle_c_tokens.proofs.kind_lemmas.QuoteBytes.{Gives, quote-region, quote-units, header-region, header-units}
use Rattle.tangle_c_tokens.proofs.kind_lemmas.QuotedLines.{text-lines}
use Rattle.std.proofs.lemmas.Bool.Decides.{nat_tests}

string-quoted : (ends : Bool) (q bytes : List ℕ) → Gives ends (ends_quoted double_quote) (spliced q)
    → (ends ≡ true → last_byte_passes (λ b. b == double_quote) q ≡ true) → bytes ≡ double_quote ∷ q → IsQuoted bytes
string-quoted ends q bytes h last is = grind (arith, nat_tests)

character-quoted : (ends : Bool) (q bytes : List ℕ) → Gives ends (ends_quoted apostrophe) (spliced q)
    → (ends ≡ true → last_byte_passes (λ b. b == apostrophe) q ≡ true) → bytes ≡ apostrophe ∷ q → IsQuoted bytes
character-quoted false q bytes h last is = grind (arith, nat_tests)
character-quoted true q bytes h last is =
    let same : spliced bytes ≡ apostrophe ∷ spliced q = search rules in
    elim (cases_Bool (bytes_eq (apostrophe ∷ spliced q) (codes "''"))) [ inl e ↦ search rules | inr e ↦ search rules ]

header-quoted : (ends : Bool) (q bytes : List ℕ) → Gives ends ends_header_name q → bytes ≡ less_sign ∷ q
    → IsQuoted bytes
header-quoted true q bytes h same = inr (inr (inl (ap is_header_name same ∙ h)))
header-quoted false q bytes h same = grind (arith, nat_tests)

module _ (texts : List (List ℕ)) (clear : AreClear texts) (s : LexerState) (at : Point) (c : Cell) (cs : List Cell)
    (is : IsTextAt texts at (c ∷ cs)) where
  abbrev tokens_in : Region → ℕ → List Token
  tokens_in r close = (quoted_text r close s (c ∷ cs)).tokens

  abbrev IsText : Region → ℕ → Type 0
  IsText r close = IsQuotedText texts (without_faults (tokens_in r close))

  -- a text of such a region, which this byte opens
  text-of : (r : Region) (close first_byte : ℕ) → IsQuoteRegion r close → (Closes : Bool → List ℕ → Type 0)
      → IsByUnits r close Closes
      → (close == line_feed) ≡ false → (first_byte == backslash) ≡ false → (first_byte == line_feed) ≡ false
      → ((ends : Bool) (q bytes : List ℕ) → Closes ends q
      → (ends ≡ true → last_byte_passes (λ b. b == close) q ≡ true)
      → bytes ≡ first_byte ∷ q → IsQuoted bytes) → c.byte ≡ Some first_byte → IsText r close
  text-of r close first_byte region Closes units feed back other quoted x =
      let whole = text-whole texts clear r close s.last_line region Closes units at c cs first_byte x is in
      let lines = text-lines texts clear r close s.last_line region feed at c cs first_byte x is in
      search (rules, whole, quoted, lines)

  pub string-text : c.byte ≡ Some double_quote → IsText region.DoubleQuote double_quote
  string-text =
      text-of region.DoubleQuote double_quote double_quote
      (quote-region double_quote refl refl region.DoubleQuote (λ b n. refl) double_quote-cut refl) _
      (quote-units double_quote refl refl region.DoubleQuote
      (λ b n. refl) double_quote-cut refl) refl refl refl string-quoted

  pub character-text : c.byte ≡ Some apostrophe → IsText region.Apostrophe apostrophe
  character-text =
      text-of region.Apostrophe apostrophe apostrophe
      (quote-region apostrophe refl refl region.Apostrophe (λ b n. refl) apostrophe-cut refl) _
      (quote-units apostrophe refl refl region.Apostrophe
      (λ b n. refl) apostrophe-cut refl) refl refl refl character-quoted

  pub header-text : c.byte ≡ Some less_sign → IsText region.HeaderName greater_sign
  header-text =
      text-of region.HeaderName greater_sign less_sign header-region _ header-units refl refl refl
      (λ ends q bytes h last same. header-quoted ends q bytes h same)
