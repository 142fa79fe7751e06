-- Rules 1 and 2 for the tokens of a macro, from item to item.
use Rattle.std.proofs.Common.{rules}
use Rattle.std.proofs.lemmas.Bool.Decides.{nat_tests}
use Rattle.std.proofs.Common.{arith}
use Rattle.std.proofs.Common.{◌≡◌, ℕ, Bool, true, false, List, [], ◌∷◌, ◌++◌, refl}
use Rattle.std.proofs.Common.{if◌then◌else◌, append_assoc, append-nil}
use Rattle.std.specs.List.{list_all}
use Rattle.tangle_lexer.specs.declared.tokens.Token.{Token}
use Rattle.tangle_lexer.specs.declared.tokens.Token.TheVariants as token
use Rattle.tangle_scan.specs.Rules.{is_gap, without_joins, left_of_run, has_join, clean_tokens, white_inner_end}
use Rattle.tangle_scan.specs.Rules.{with_spaces}
use Rattle.tangle_scan.specs.Rules.{macro_tokens, is_front_gap}
use Rattle.tangle_scan.specs.Passes.{with_white_space, gap_before, from_item, is_spaced, left_gap}
use Rattle.tangle_scan.specs.Passes.{spaced_from, joined_from, is_solid}

-- rule 1, token by token

inside-spaced : (texts : List (List ℕ)) (e : Token) (es : List Token)
    → with_spaces texts (e ∷ es) ≡ e ∷ with_white_space texts false e es
inside-spaced texts e [] = refl
inside-spaced texts e (f ∷ es) = grind (arith, nat_tests, inside-spaced texts f es)

pub spaced-inside : (texts : List (List ℕ)) (es : List Token)
    → with_white_space texts false token.White es ≡ with_spaces texts es
spaced-inside texts es = grind (arith, nat_tests, inside-spaced texts)

-- the white space of rule 1 after the first item of a macro

-- rule 1 at a gap and at an item

gap-spaced : (texts : List (List ℕ)) (first : Bool) (e : Token) (es : List Token)
    → is_gap e ≡ true → white_inner_end e ≡ e
    → spaced_from texts first (e ∷ es) ≡ e ∷ spaced_from texts first es
gap-spaced texts first e es h same = grind arith

item-spaced : (texts : List (List ℕ)) (first : Bool) (e : Token) (es : List Token) → is_solid e ≡ true
    → spaced_from texts first (e ∷ es) ≡ e ∷ with_white_space texts first e (clean_tokens es)
item-spaced texts first e es h = grind (arith, nat_tests, inside-spaced)

-- rule 2 at a gap, of which `run` was read, and at the item after it

run-ahead : (texts : List (List ℕ)) (first : Bool) (run es : List Token)
    → without_joins run (spaced_from texts first es)
    ≡ left_of_run (run ++ gap_before es) ++ joined_from texts first (from_item es)
run-ahead texts first run [] = grind (arith, append-nil)
run-ahead texts first run (e ∷ es) =
    let more = λ (r : List Token). run-ahead texts first r es in
    grind (arith, nat_tests, append-nil, append_assoc, item-spaced, gap-spaced, more)

-- of the gap before the first item nothing is left
pub macro-begin : (texts : List (List ℕ)) (es : List Token)
    → macro_tokens texts es ≡ joined_from texts true (from_item es)
macro-begin texts [] = refl
macro-begin texts (e ∷ es) = search (rules, macro-begin texts es, run-ahead texts true (token.Join ∷ []))

-- what is left of a gap, and the tokens from the item after it on

left-ahead : (texts : List (List ℕ)) (first : Bool) (before : Token) (es : List Token)
    → without_joins [] (with_white_space texts first before (clean_tokens es))
    ≡ left_gap texts first before es ++ joined_from texts false (from_item es)
left-ahead texts first before es = grind (arith, nat_tests, spaced es, run-ahead texts false)
  where
    spaced : (es : List Token) → with_white_space texts first before (clean_tokens es)
        ≡ (if is_spaced texts first before es then token.White ∷ [] else []) ++ with_spaces texts (clean_tokens es)
    spaced [] = search rules
    spaced (e ∷ es) = search (rules, inside-spaced, spaced es)

pub item-ahead : (texts : List (List ℕ)) (first : Bool) (e : Token) (es : List Token) → is_solid e ≡ true
    → joined_from texts first (e ∷ es) ≡ e ∷ (left_gap texts first e es ++ joined_from texts false (from_item es))
item-ahead texts first e es h = grind (arith, nat_tests, item-spaced, left-ahead)

-- what is left of a gap has no join

front-gap : (es : List Token) → has_join (gap_before es) ≡ false → list_all is_front_gap (gap_before es) ≡ true
front-gap [] h = refl
front-gap (e ∷ es) h = search (rules, front-gap es)

pub left-front_gap : (texts : List (List ℕ)) (first : Bool) (before : Token) (es : List Token)
    → list_all is_front_gap (left_gap texts first before es) ≡ true
left-front_gap texts first before es = grind (arith, nat_tests, front-gap)
