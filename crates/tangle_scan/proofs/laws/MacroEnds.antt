-- The items that are dropped at the end of a macro are those of the tokens that are dropped there.
use Rattle.std.proofs.Common.{rules}
use Rattle.std.proofs.lemmas.Bool.Decides.{nat_tests}
use Rattle.std.proofs.Common.{arith}
use Rattle.std.proofs.Common.{◌≡◌, ℕ, Bool, true, false, List, [], ◌∷◌, ◌++◌, refl}
use Rattle.std.proofs.Common.{Option, Some, None}
use Rattle.std.specs.List.{last_or}
use Rattle.std.specs.Option.{IfSome}
use Rattle.tangle_lexer.specs.declared.tokens.Token.{Token}
use Rattle.tangle_scan.specs.declared.items.Item.{Item}
use Rattle.tangle_scan.specs.Rules.{next_item, macro_blanks, unmarked_items}
use Rattle.tangle_scan.specs.MacroBytes.{without_end}
use Rattle.tangle_scan.specs.ReadAsMeant.{is_empty, is_dropped_token, with_written, written_tokens}

module _ (texts : List (List ℕ)) where
  -- The items that rule 3 makes of the tokens of a macro. The arguments before the tokens are those of the rule.
  abbrev pub items_from : Bool → Option Token → Bool → List Token → List Item
  items_from in_name before white es = unmarked_items (macro_blanks texts in_name before white es)

  -- items before items of which some are written
  more-items : (ps xs : List Item) → is_empty (without_end texts xs) ≡ false
      → (without_end texts (ps ++ xs) ≡ ps ++ without_end texts xs) × (is_empty (ps ++ without_end texts xs) ≡ false)
  more-items [] xs some = (refl, some)
  more-items (p ∷ ps) xs some = grind (arith, nat_tests, more-items ps xs some)

  -- of the items of the tokens `es` those of the tokens `fs` are written
  record AreWritten (es fs : List Token) : Type 0 where
    is : (in_name : Bool) (before : Option Token) (white : Bool)
        → without_end texts (items_from in_name before white es) ≡ items_from in_name before white fs
    some : (in_name : Bool) (before : Option Token) (white : Bool)
        → is_empty (items_from in_name before white fs) ≡ is_empty fs
    next : is_empty fs ≡ false → next_item es ≡ next_item fs

  written-before : (e : Token) (es fs : List Token) → AreWritten es fs → AreWritten (e ∷ es) (with_written texts e fs)
  written-before e es [] h = search rules
  written-before e es (f ∷ fs) h = record {
    is = λ in_name before white. grind (arith, h.is, h.some, h.next refl, more-items);
    some = λ in_name before white. grind (arith, h.some);
    next = λ some. grind (arith, h.next refl);
  }

  written : (es : List Token) → AreWritten es (written_tokens texts es)
  written [] = record { is = λ in_name before white. refl; some = λ in_name before white. refl; next = λ some. refl }
  written (e ∷ es) = written-before e es (written_tokens texts es) (written es)

  -- the written items of a macro are the items of its written tokens
  pub end-items : (es : List Token) (in_name : Bool) (before : Option Token) (white : Bool) →
      without_end texts (items_from in_name before white es) ≡ items_from in_name before white (written_tokens texts es)
  end-items es = (written es).is

  -- The last of the tokens is an item that is written. If there are no tokens, the token before them is such an item,
  -- or there is none.
  abbrev pub EndsInItem : List Token → Option Token → Type 0
  EndsInItem es before = IfSome (last_or before es) (λ e. is_dropped_token texts e ≡ false)

  pub ends-before : (e : Token) (es : List Token) (before : Option Token)
      → is_dropped_token texts e ≡ true → EndsInItem es (Some e)
      → EndsInItem es before
  ends-before e [] before dropped h = absurd cc
  ends-before e (f ∷ es) before dropped h = h

  pub written-ends : (es : List Token) → EndsInItem (written_tokens texts es) None
  written-ends [] = tt
  written-ends (e ∷ es) = grind (arith, written-ends es)
