-- The items of spaced tokens of a macro.
use Rattle.std.proofs.Common.{◌≡◌, ◌<◌, ◌+◌, ℕ, zero, suc, Bool, true, false, List, [], ◌∷◌, ◌++◌, replicate, refl, ap, append_assoc}
use Rattle.std.proofs.Common.{rules, append-nil}
use Rattle.std.proofs.Common.{arith, drop, get_or, length}
use Rattle.std.specs.List.{All}
use Rattle.std.proofs.lemmas.List.Elements.{All-append, All-cons, All-replicate}
use Rattle.std.proofs.lemmas.List.Concat.{flat_map-append}
use Rattle.tangle_lexer.specs.declared.tokens.Token.{Token}
use Rattle.tangle_lexer.specs.declared.tokens.Token.TheVariants as token
use Rattle.tangle_lexer.specs.Runs.{IsRunIn}
use Rattle.tangle_scan.specs.Rules.{is_macro}
use Rattle.tangle_scan.specs.declared.items.Item.TheVariants as item
use Rattle.tangle_scan.specs.Passes.{first_token}
use Rattle.tangle_scan.proofs.lemmas.RestLemmas.{split-at}
use Rattle.tangle_scan.specs.Passes.{blank_if, gap_tokens, spaced_items, written_items}

module _ (texts : List (List ℕ)) where
  ends-items : (n : ℕ) → spaced_items texts (replicate n (token.LineEnd 0)) ≡ replicate n item.LineEnd
  ends-items zero = refl
  ends-items (suc n) = ap (λ t. item.LineEnd ∷ t) (ends-items n)

  gap-items : (blank : Bool) (n : ℕ) → spaced_items texts (gap_tokens blank n) ≡ blank_if blank ++ replicate n item.LineEnd
  gap-items x n = grind (arith, ends-items n)

  module _ (ts : List Token) where
    pub gap-pushed : (blank : Bool) (n : ℕ) → spaced_items texts (ts ++ gap_tokens blank n)
        ≡ spaced_items texts ts ++ (blank_if blank ++ replicate n item.LineEnd)
    gap-pushed blank n = grind (arith, flat_map-append, gap-items)

    pub gap-runs : (blank : Bool) (n : ℕ) → All (IsRunIn texts) ts → All (IsRunIn texts) (ts ++ gap_tokens blank n)
    gap-runs true n all = search (rules, All-append, All-cons, All-replicate)
    gap-runs false n all = search (rules, All-append, All-replicate)

    pub token-pushed : (blank : Bool) (n : ℕ) (t : Token) → spaced_items texts ((ts ++ gap_tokens blank n) ++ t ∷ [])
        ≡ spaced_items texts ts ++ ((blank_if blank ++ replicate n item.LineEnd) ++ written_items texts t)
    token-pushed blank n t = grind (arith, flat_map-append, gap-pushed, append_assoc, append-nil)

  -- a macro begins with an identifier if its first token does
  pub macro_by_first : (tokens : List Token) (i : ℕ) → i < length tokens → All (IsRunIn texts) tokens
      → is_macro texts (spaced_items texts (drop i tokens))
      ≡ is_macro texts (written_items texts (first_token texts (get_or tokens i token.Section))
      ++ spaced_items texts (drop (i + 1) tokens))
  macro_by_first tokens i low runs = grind (arith, split-at)
