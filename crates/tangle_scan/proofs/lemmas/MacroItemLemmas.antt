-- The items of a macro, from item to item.
use Rattle.std.proofs.Common.{rules}
use Rattle.std.proofs.lemmas.Bool.Decides.{nat_tests}
use Rattle.std.proofs.Common.{◌≡◌, ℕ, zero, suc, ◌+◌, Bool, true, false, ◌==◌, ◌&&◌, ◌||◌, not, List, [], ◌∷◌, ◌++◌, replicate}
use Rattle.std.proofs.Common.{refl, ap, ◌∙◌, if◌then◌else◌, Option, Some, None, option_to_list}
use Rattle.std.proofs.Common.{append-nil, arith, take}
use Rattle.std.specs.List.{list_all}
use Rattle.std.proofs.Math.Bool.{or-false, or-true}
use Rattle.tangle_lexer.specs.declared.tokens.Token.{Token}
use Rattle.tangle_lexer.specs.declared.tokens.Token.TheVariants as token
use Rattle.tangle_scan.specs.declared.items.Item.{Item}
use Rattle.tangle_scan.specs.declared.items.Item.TheVariants as item
use Rattle.tangle_scan.specs.declared.macro_items.MacroState.{MacroState}
use Rattle.tangle_scan.specs.declared.macro_items.Gap.{Gap}
use Rattle.tangle_scan.specs.Rules.{next_item, has_blank_at_line_end, is_name_part, macro_blanks, unmarked_items, macro_items}
use Rattle.tangle_scan.specs.Rules.{is_front_gap, without_backslashes, ends_line}
use Rattle.tangle_scan.specs.Passes.{item_of, blank_if, from_item, left_gap, joined_from, is_solid, is_dropped}
use Rattle.tangle_scan.specs.Passes.{has_white, line_ends, gap_of, has_blank, is_at_name, items_from, items_ahead}
use Rattle.tangle_scan.proofs.lemmas.SpacingLemmas.{item-ahead, macro-begin, left-front_gap}

-- the items after a gap, of which a part was read

front-white : (texts : List (List ℕ)) (es : List Token)
    → macro_blanks texts false None true es ≡ macro_blanks texts false None false es
front-white texts (token.White ∷ es) = refl
front-white texts es = refl

one-more : (n : ℕ) (items : List Item)
    → replicate n item.LineEnd ++ item.LineEnd ∷ items ≡ replicate (suc n) item.LineEnd ++ items
one-more zero items = refl
one-more (suc n) items = ap (λ t. item.LineEnd ∷ t) (one-more n items)

some-ends : (n : ℕ) → (suc n == 0) ≡ false
some-ends n = grind arith

abbrev after_ends : List (List ℕ) → Bool → Option Token → ℕ → List Token → List Item
after_ends texts in_name before ends es =
    blank_if (has_blank_at_line_end texts in_name before (next_item es))
    ++ (replicate ends item.LineEnd ++ unmarked_items (macro_blanks texts false None false es))

gap-after_ends : (texts : List (List ℕ)) (in_name : Bool) (before : Option Token) (ends : ℕ) (gap es : List Token)
    → list_all is_front_gap gap ≡ true
    → after_ends texts in_name before ends (gap ++ es) ≡ after_ends texts in_name before (ends + line_ends gap) es
gap-after_ends texts in_name before ends [] es h = grind (arith, nat_tests)
gap-after_ends texts in_name before ends (token.White ∷ gap) es h =
    grind (arith, nat_tests, front-white texts, gap-after_ends texts in_name before ends gap es h)
gap-after_ends texts in_name before ends (token.LineEnd line ∷ gap) es h =
    grind (arith, nat_tests, one-more ends, gap-after_ends texts in_name before (suc ends) gap es h)
gap-after_ends texts in_name before ends (_ ∷ gap) es h = cc

abbrev gap_with : Bool → ℕ → Gap
gap_with white ends = record { has_join = false; has_white = white; line_ends = ends }

-- after white space and before line ends
gap-on_line : (texts : List (List ℕ)) (in_name : Bool) (before : Option Token) (white : Bool) (gap es : List Token)
    → list_all is_front_gap gap ≡ true
    → unmarked_items (macro_blanks texts in_name before white (gap ++ es))
    ≡ items_from texts in_name before (gap_with (white || has_white gap) (line_ends gap)) es
gap-on_line texts in_name before white [] es h = rw (or-false white) refl
gap-on_line texts in_name before white (token.White ∷ gap) es h =
    rw (or-true white) (gap-on_line texts in_name before true gap es h)
gap-on_line texts in_name before white (token.LineEnd line ∷ gap) es h =
    let more : 1 + line_ends gap ≡ suc (line_ends gap) = omega arith in
    rw (some-ends (line_ends gap))
    ((grind arith)
    ∙ (gap-after_ends texts in_name before 1 gap es h ∙ ap (λ n. after_ends texts in_name before n es) more))
gap-on_line texts in_name before white (_ ∷ gap) es h = cc

-- the items after a gap, at an item and at the end

solid-items : (texts : List (List ℕ)) (in_name : Bool) (before : Option Token) (white : Bool) (ends : ℕ) (e : Token)
    (es : List Token) → is_solid e ≡ true → items_from texts in_name before (gap_with white ends) (e ∷ es)
    ≡ blank_if (has_blank texts in_name before (gap_with white ends) e) ++ (replicate ends item.LineEnd
    ++ (option_to_list (item_of e) ++ unmarked_items
    (macro_blanks texts (in_name && (ends == 0 && not white) && is_name_part e) (Some e) false es)))
solid-items texts in_name before white ends e es h = grind (arith, nat_tests)

-- backslashes, of which a gap has none

gap-backslashes : (texts : List (List ℕ)) (gap es : List Token) → list_all is_front_gap gap ≡ true
    → without_backslashes texts (gap ++ es) ≡ gap ++ without_backslashes texts es
gap-backslashes texts [] es h = refl
gap-backslashes texts (x ∷ gap) es h = grind (arith, nat_tests, gap-backslashes texts gap es)

gap-ends_line : (gap es : List Token) → list_all is_front_gap gap ≡ true → ends_line es ≡ false
    → ends_line (gap ++ es) ≡ not (line_ends gap == 0)
gap-ends_line [] es h none = none
gap-ends_line (x ∷ gap) es h none = grind (arith, nat_tests, some-ends, gap-ends_line gap es)

item-ends_line : (texts : List (List ℕ)) (es : List Token) → ends_line (joined_from texts false (from_item es)) ≡ false
item-ends_line texts [] = refl
item-ends_line texts (e ∷ es) = search (rules, item-ahead, item-ends_line texts es)

-- the items ahead of an item, which a backslash before a line end is not

ahead : (texts : List (List ℕ)) (at : MacroState) (e : Token) (es : List Token) → is_solid e ≡ true
    → items_ahead texts at (e ∷ es) ≡ items_from texts at.in_name at.item at.gap
    ((if is_dropped texts e (gap_of (left_gap texts at.is_first e es)) then [] else e ∷ [])
    ++ (left_gap texts at.is_first e es ++ without_backslashes texts (joined_from texts false (from_item es))))
unfolding items_ahead
ahead texts at e es h =
    grind (arith, nat_tests, left-front_gap, item-ahead, gap-ends_line, item-ends_line, gap-backslashes)

pub ahead-item : (texts : List (List ℕ)) (at : MacroState) (e : Token) (es : List Token) → is_solid e ≡ true →
    let gap : Gap = gap_of (left_gap texts at.is_first e es) in
    is_dropped texts e gap ≡ false → items_ahead texts at (e ∷ es)
    ≡ blank_if (has_blank texts at.in_name at.item at.gap e)
    ++ (replicate at.gap.line_ends item.LineEnd ++ (option_to_list (item_of e)
    ++ items_ahead texts (record { is_first = false; item = Some e; in_name = is_at_name at && is_name_part e; gap = gap }) (from_item es)))
unfolding items_ahead
ahead-item texts at e es h kept = grind (arith, nat_tests, ahead, gap-on_line, left-front_gap, solid-items)

pub ahead-backslash : (texts : List (List ℕ)) (at : MacroState) (e : Token) (es : List Token) → is_solid e ≡ true →
    let gap : Gap = gap_of (left_gap texts at.is_first e es) in
    is_dropped texts e gap ≡ true → items_ahead texts at (e ∷ es) ≡ items_ahead texts (record at {
      is_first = false;
      gap = gap_with (at.gap.has_white || gap.has_white) (at.gap.line_ends + gap.line_ends);
    }) (from_item es)
unfolding items_ahead
ahead-backslash texts at e es h gone = grind (arith, nat_tests, ahead, gap-on_line, gap-after_ends, left-front_gap)

pub ahead-begin : (texts : List (List ℕ)) (at : MacroState) (es : List Token)
    → at ≡ record { is_first = true; item = None; in_name = true; gap = gap_of [] }
    → items_ahead texts at (from_item es) ≡ macro_items texts es
unfolding items_ahead
ahead-begin texts at es is = rw (is, macro-begin texts es) refl

pub ahead-end : (texts : List (List ℕ)) (at : MacroState) (first : Bool) (es : List Token) → es ≡ []
    → at.is_first ≡ first → items_ahead texts at es ≡ replicate at.gap.line_ends item.LineEnd
unfolding items_ahead
ahead-end texts at first es none is = grind (arith, nat_tests, append-nil)

pub first-solid : (es : List Token) → list_all is_solid (take 1 (from_item es)) ≡ true
first-solid [] = refl
first-solid (e ∷ es) = search (rules, first-solid es)
