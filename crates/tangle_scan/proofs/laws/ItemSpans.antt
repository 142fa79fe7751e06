-- The items of a C part have the spans and the uses of its tokens.
use Rattle.std.proofs.Common.{rules}
use Rattle.std.proofs.Common.{arith}
use Rattle.std.proofs.lemmas.Bool.Decides.{nat_tests}
use Rattle.std.proofs.Common.{◌≡◌, ℕ, List, [], ◌∷◌, flat_map, ◌++◌, refl, ap, sym, ◌∙◌}
use Rattle.std.proofs.Common.{Option, Some}
use Rattle.tangle_lines.specs.declared.origin.Origin.{Origin}
use Rattle.tangle_text.specs.declared.spans.Span.{Span}
use Rattle.tangle_lexer.specs.declared.tokens.Token.{Token}
use Rattle.tangle_lexer.specs.declared.tokens.Token.TheVariants as token
use Rattle.tangle_lines.specs.Reading.{SourceLine}
use Rattle.tangle_scan.specs.declared.items.Item.{Item}
use Rattle.tangle_scan.specs.declared.items.Item.TheVariants as item
use Rattle.tangle_scan.specs.Rules.{part_items}
use Rattle.tangle_scan.specs.Passes.{items_at, items_by_origin}
use Rattle.tangle_scan.specs.declared.turns.Turn.{Turn}
use Rattle.tangle_scan.specs.ItemSpans.{item_span, item_spans}
use Rattle.tangle_scan.specs.Texts.{item_uses}
use Rattle.tangle_scan.proofs.lemmas.ItemsByOrigin.{part_items-by_origin}
use Rattle.tangle_scan.proofs.lemmas.KeptTokens.{keep, kept, part-kept}

-- `f` gives for the items of a token what `g` gives for the token, and nothing for white space, line ends and marks
pub record Gives {X : Type 0} (f : Item → List X) (g : Token → List X) : Type 0 where
  gap : (e : Token) → keep e ≡ [] → g e ≡ []
  blank : f item.Blank ≡ []
  end : f item.LineEnd ≡ []
  mark : (p : Origin) → f (item.LineMark p) ≡ []
  each : (lines : List SourceLine) (e : Token) (more : List Item) → flat_map f (items_at lines e ++ more) ≡ g e ++ flat_map f more

module _ {X : Type 0} (f : Item → List X) (g : Token → List X) (gives : Gives f g) where
  kept-gives : (es : List Token) → flat_map g (kept es) ≡ flat_map g es
  kept-gives [] = refl
  kept-gives (x ∷ es) = grind (arith, nat_tests, kept-gives es, gives.gap x)

  -- tokens of which the same are kept give the same
  alike : (es fs : List Token) → kept es ≡ kept fs → flat_map g es ≡ flat_map g fs
  alike es fs h = sym (kept-gives es) ∙ (ap (flat_map g) h ∙ kept-gives fs)

  by_origin-gives : (lines : List SourceLine) (before : Option Token) (at : Turn) (counted : Origin) (es : List Token)
      → flat_map f (items_by_origin lines before at counted es) ≡ flat_map g es
  by_origin-gives lines before at counted [] = refl
  by_origin-gives lines before at counted (token.White ∷ es) =
      cc (by_origin-gives lines before at counted es, gives.gap token.White refl, gives.blank)
  by_origin-gives lines before at counted (token.LineEnd line ∷ es) =
      let rest = λ (b : Option Token) (t : Turn) (p : Origin). by_origin-gives lines b t p es in
      grind (arith, nat_tests, rest, gives.end, gives.mark, gives.gap (token.LineEnd line) refl)
  by_origin-gives lines before at counted (e ∷ es) =
      grind (arith, nat_tests, gives.each lines e, λ (t : Turn) (p : Origin). by_origin-gives lines (Some e) t p es)

  -- the items of a C part give what its tokens give
  pub part-gives : (lines : List SourceLine) (line : ℕ) (es : List Token)
      → flat_map f (part_items lines line es) ≡ flat_map g es
  part-gives lines line es = search (rules, part_items-by_origin, by_origin-gives, alike, part-kept)

-- spans

abbrev token_span : Token → List Span
token_span (token.Span kind s) = s ∷ []
token_span _ = []

abbrev pub token_spans : List Token → List Span
token_spans es = flat_map token_span es

spans-given : Gives item_span token_span
spans-given =
    record { gap = λ x none. grind arith; blank = refl; end = refl; mark = λ p. refl; each = λ lines x more. grind arith }

pub alike-spans : (es fs : List Token) → kept es ≡ kept fs → token_spans es ≡ token_spans fs
alike-spans = alike item_span token_span spans-given

pub part-spans : (lines : List SourceLine) (line : ℕ) (es : List Token)
    → item_spans (part_items lines line es) ≡ token_spans es
part-spans = part-gives item_span token_span spans-given

-- uses

abbrev pub token_uses : Token → List ℕ
token_uses (token.UseOf line occurrence) = occurrence ∷ []
token_uses _ = []

pub part-uses : (lines : List SourceLine) (line : ℕ) (es : List Token)
    → flat_map item_uses (part_items lines line es) ≡ flat_map token_uses es
part-uses =
    part-gives item_uses token_uses
    (record { gap = λ x none. grind arith; blank = refl; end = refl; mark = λ p. refl; each = λ lines x more. grind arith })
