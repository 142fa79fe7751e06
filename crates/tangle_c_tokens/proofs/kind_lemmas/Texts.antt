-- Tokens that are texts, one after another.
use Rattle.std.proofs.Common.{rules}
use Rattle.std.proofs.Common.{arith}
use Rattle.std.proofs.Common.{◌≡◌, ◌⊎◌, inl, inr, ℕ, Bool, true, false, List, [], ◌∷◌, ◌++◌, refl, ap, sym, subst}
use Rattle.std.proofs.Common.{append_assoc, flat_map}
use Rattle.std.specs.List.{AllByRecursion}
use Rattle.tangle_lexer.specs.declared.tokens.Token.{Token}
use Rattle.tangle_lexer.specs.declared.tokens.Token.TheVariants as token
use Rattle.tangle_lexer.specs.declared.tokens.SpanKind.TheVariants as span_kind
use Rattle.tangle_scan.specs.Rules.{without_faults}
use Rattle.tangle_lexer.proofs.lemmas.PlainTokens.{HasNone}
use Rattle.tangle_c_tokens.specs.Kinds.{HasItsKind, is_range, IsQuotedText, IsAlone, AreTexts}
use Rattle.std.proofs.lemmas.Bool.Decides.{nat_tests}

-- a word, a sign, or a part of a quoted text
abbrev pub is_source : Token → Bool
is_source (token.Span span_kind.Verbatim s) = false
is_source (token.Span kind s) = true
is_source (token.QuoteBreak line) = true
is_source _ = false

-- faults

pub faults-append : (xs ys : List Token) → without_faults (xs ++ ys) ≡ without_faults xs ++ without_faults ys
faults-append [] ys = refl
faults-append (x ∷ xs) ys = search (rules, faults-append xs ys)

module _ (texts : List (List ℕ)) where
  pub texts-none : AreTexts texts []
  texts-none = ([], refl, tt)

  pub texts-alone : (t : Token) (ts : List Token) → is_range t ≡ false → HasItsKind texts t
      → AreTexts texts ts → AreTexts texts (t ∷ ts)
  texts-alone t ts alone kind rest = ((t ∷ []) ∷ rest.0, ap (λ us. t ∷ us) rest.1, (inl (alone, kind), rest.2))

  pub texts-part : (part ts : List Token) → IsQuotedText texts part → AreTexts texts ts → AreTexts texts (part ++ ts)
  texts-part part ts quoted rest = (part ∷ rest.0, ap (λ us. part ++ us) rest.1, (inr quoted, rest.2))

  -- what is true text by text is true of tokens that are texts
  module _ (P : List Token → Type 0) (none : P [])
      (alone : (t : Token) (ts : List Token) → is_range t ≡ false → HasItsKind texts t → AreTexts texts ts → P ts
      → P (t ∷ ts))
      (quoted : (t : Token) (part ts : List Token) → IsQuotedText texts (t ∷ part) → AreTexts texts ts → P ts
      → P (t ∷ part ++ ts)) where
    parts-by : (parts : List (List Token))
        → AllByRecursion (λ part. IsAlone texts part ⊎ IsQuotedText texts part) parts → P (flat_map (λ part. part) parts)
    parts-by [] all = none
    parts-by ([] ∷ parts) all = parts-by parts all.1
    parts-by ((t ∷ part) ∷ parts) all = search (rules, alone, quoted, parts-by parts)

    pub texts-by : (ts : List Token) → AreTexts texts ts → P ts
    texts-by ts all = subst P (sym all.1) (parts-by all.0 all.2)

  pub texts-append : (xs ys : List Token) → AreTexts texts xs → AreTexts texts ys → AreTexts texts (xs ++ ys)
  texts-append xs ys first rest =
      texts-by (λ ts. AreTexts texts (ts ++ ys)) rest
      (λ t ts alone kind all made. texts-alone t (ts ++ ys) alone kind made)
      (λ t part ts text all made.
      subst (AreTexts texts) (sym (append_assoc (t ∷ part) ts ys)) (texts-part (t ∷ part) (ts ++ ys) text made))
      xs first

  -- tokens without bytes of words, signs and quoted texts

  pub others-texts : (ts : List Token) → HasNone is_source ts → AreTexts texts (without_faults ts)
  others-texts [] h = texts-none
  others-texts (token.Fault kind line ∷ ts) h = others-texts ts h
  others-texts (t ∷ ts) h = grind (arith, nat_tests, texts-alone t (without_faults ts), others-texts ts)
