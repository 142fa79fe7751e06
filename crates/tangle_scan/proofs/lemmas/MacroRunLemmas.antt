-- The runs of a macro: the rules read the tokens that they stand for.
use Rattle.std.proofs.Common.{rules}
use Rattle.std.proofs.lemmas.Bool.Decides.{nat_tests}
use Rattle.std.proofs.Common.{◌≡◌, ◌==◌, ℕ, ◌∙◌, Bool, true, false, take, ◌&&◌, ◌||◌, not, List, [], ◌∷◌, ◌++◌, map, replicate, refl, arith, sym}
use Rattle.std.proofs.Common.{Some, subst, suc, append_assoc, if◌then◌else◌}
use Rattle.std.proofs.Math.Bool.{or-false, or-true}
use Rattle.std.specs.List.{All, list_all}
use Rattle.std.proofs.lemmas.Bool.{false_from_ne_true}
use Rattle.std.proofs.lemmas.List.Elements.{All-tail}
use Rattle.tangle_text.specs.Bytes.{backslash}
use Rattle.tangle_text.specs.declared.spans.Span.{Span}
use Rattle.tangle_text.specs.declared.runs.RunPart.{RunPart}
use Rattle.tangle_text.specs.declared.runs.RunPart.TheVariants as part
use Rattle.tangle_text.specs.Runs.{are_apart, run_parts}
use Rattle.tangle_lexer.specs.declared.tokens.Token.{Token}
use Rattle.tangle_lexer.specs.declared.tokens.Token.TheVariants as token
use Rattle.tangle_lexer.specs.Runs.{part_token, is_run, first_is_alone, unfolded, unfolded_token, IsRunIn, IsRunOf}
use Rattle.tangle_lexer.specs.SpanBytes.{ends_in}
use Rattle.tangle_scan.specs.declared.items.Item.TheVariants as item
use Rattle.tangle_scan.specs.declared.macro_items.Gap.{Gap}
use Rattle.tangle_scan.specs.declared.macro_items.MacroState.{MacroState}
use Rattle.tangle_scan.specs.Rules.{has_join, left_of_run, is_constant, is_name_part, would_merge}
use Rattle.tangle_scan.specs.ReadAsMeant.{is_empty}
use Rattle.tangle_scan.specs.Texts.{part_item}
use Rattle.tangle_scan.specs.Passes.{has_white, line_ends, is_spaced_in_run, would_merge_in_run, are_name_parts, are_words, written_items, blank_if, first_token, from_item, gap_before, gap_of, has_blank, is_at_name}
use Rattle.tangle_scan.specs.Passes.{is_dropped, is_solid, is_spaced, items_ahead, last_of, last_token, left_gap}
use Rattle.tangle_scan.proofs.lemmas.MacroItemLemmas.{ahead-item, first-solid}
use Rattle.tangle_scan.proofs.lemmas.RunItems.{run-ends}

module _ (texts : List (List ℕ)) where
  -- rule 1 beside runs, by the last part of the one and the first part of the other

  merges-plain : (e f : Token) → IsRunIn texts e → is_run f ≡ false
      → would_merge_in_run texts e f ≡ would_merge texts (last_token texts e) f
  merges-plain (token.Run s) x before other =
      let ends = run-ends texts s before in rw ends.parts (grind (arith, nat_tests, ends.last.merges, ends.last.plain))
  merges-plain e x before other = grind arith

  merges-ends : (e f : Token) → IsRunIn texts e → IsRunIn texts f
      → would_merge_in_run texts e f ≡ would_merge texts (last_token texts e) (first_token texts f)
  merges-ends e (token.Run s) before run =
      let ends = run-ends texts s run in
      rw ends.parts (sym (ends.merges e) ∙ merges-plain e (part_token ends.first) before (grind arith))
  merges-ends e f before run = merges-plain e f before refl

  -- rule 1 at a gap, of which no join is a part

  spaced-here : (first : Bool) (e : Token) (es : List Token)
      → is_spaced texts first e es ≡ (is_empty (gap_before es) && is_spaced texts first e (from_item es))
  spaced-here first e [] = refl
  spaced-here first e (x ∷ es) = grind (arith, nat_tests, spaced-here first e es)

  empty-gap : (es : List Token) → has_join (gap_before es) ≡ false
      → is_empty (gap_before es) ≡ (line_ends (gap_before es) == 0 && not (has_white (gap_before es)))
  empty-gap [] h = refl
  empty-gap (x ∷ es) h = grind (arith, nat_tests, empty-gap es)

  -- the gap before an item or a run, and the tokens from there on

  pub gap-unfolded : (es : List Token) → All (IsRunIn texts) es → (gap_before (unfolded texts es) ≡ gap_before es)
      × (from_item (unfolded texts es) ≡ unfolded texts (from_item es))
  gap-unfolded [] runs = (refl, refl)
  gap-unfolded (token.Run s ∷ es) runs =
      let ends = run-ends texts s (runs 0 (token.Run s) (omega arith)) in (grind (arith, nat_tests), grind (arith, nat_tests))
  gap-unfolded (e ∷ es) runs =
      let more = gap-unfolded es (λ k d low. runs (suc k) d (omega arith)) in
      (grind (arith, nat_tests, more), grind (arith, nat_tests, more))

  pub from-runs : (es : List Token) → All (IsRunIn texts) es → All (IsRunIn texts) (from_item es)
  from-runs [] runs = runs
  from-runs (e ∷ es) runs = grind (arith, nat_tests, All-tail (IsRunIn texts) e es runs, from-runs es)

  next-spaced : (first : Bool) (e : Token) (es : List Token) → list_all is_solid (take 1 es) ≡ true
      → IsRunIn texts e → All (IsRunIn texts) es
      → is_spaced texts first (last_token texts e) (unfolded texts es) ≡ is_spaced_in_run texts first e es
  next-spaced first e [] solid run runs = refl
  next-spaced first e (token.Run s ∷ es) solid run runs =
      let next = runs 0 (token.Run s) (omega arith) in
      let ends = run-ends texts s next in rw (merges-ends e (token.Run s) run next, ends.parts) (grind arith)
  next-spaced first e (f ∷ es) solid run runs = grind (arith, merges-ends e f run (runs 0 f (omega arith)))

  gap-spaced : (white : Bool) (gap : List Token) → has_join gap ≡ false
      → gap_of (left_of_run ((if white then token.White ∷ [] else []) ++ gap))
      ≡ record { has_join = false; has_white = has_white gap || white; line_ends = line_ends gap }
  gap-spaced x gap none = grind (arith, or-true, or-false)

  -- what is left of the gap between an item or a run and the next one
  pub left-unfolded : (first : Bool) (e : Token) (es : List Token) → IsRunIn texts e → All (IsRunIn texts) es →
      let gap : List Token = gap_before es in
      has_join gap ≡ false → gap_of (left_gap texts first (last_token texts e) (unfolded texts es)) ≡ record {
        has_join = false;
        has_white = has_white gap
            || ((line_ends gap == 0 && not (has_white gap)) && is_spaced_in_run texts first e (from_item es));
        line_ends = line_ends gap;
      }
  left-unfolded first e es run runs none =
      search (rules, gap-unfolded, next-spaced, first-solid, from-runs, spaced-here, empty-gap, gap-spaced)

  pub from-alone : (es : List Token) → first_is_alone es ≡ true → first_is_alone (from_item es) ≡ true
  from-alone [] h = refl
  from-alone (e ∷ es) h = grind (arith, nat_tests, from-alone es)

  -- the items ahead of the parts of a run

  abbrev gap_after : Token → List Token → Gap
  gap_after e es = gap_of (left_gap texts false e es)

  abbrev after : Token → Bool → List Token → MacroState
  after e in_name es = record { is_first = false; item = Some e; in_name = in_name; gap = gap_after e es }

  -- no part is dropped as a backslash before a line end
  part-kept : (p : RunPart) (word : Bool) (ps : List RunPart) (es : List Token) → are_apart false word ps ≡ true
      → ends_in backslash texts (last_of (part_token p) ps) ≡ false
      → is_dropped texts (part_token p) (gap_after (part_token p) (map part_token ps ++ es)) ≡ false
  part-kept p word [] es apart ends = grind (arith, nat_tests)
  part-kept p word (part.Space ∷ []) es apart ends = cc
  part-kept p word (q ∷ ps) es apart ends = grind (arith, nat_tests)

  parts-ahead : (e : Token) (in_name word : Bool) (ps : List RunPart) (es : List Token) → is_constant e ≡ false
      → are_apart false word ps ≡ true → ends_in backslash texts (last_of e ps) ≡ false
      → items_ahead texts (after e in_name (map part_token ps ++ es)) (from_item (map part_token ps ++ es))
      ≡ map part_item ps ++ items_ahead texts (after (last_of e ps) (in_name && are_words ps) es) (from_item es)
  parts-ahead e in_name word [] es plain apart ends = grind (arith, nat_tests)
  parts-ahead e in_name word (part.Space ∷ part.Space ∷ ps) es plain apart ends = cc
  parts-ahead e in_name word (part.Space ∷ p ∷ ps) es plain apart ends =
      grind (arith, nat_tests, ahead-item, part-kept p, λ (w : Bool). parts-ahead (part_token p) false w ps es)
  parts-ahead e in_name word (p ∷ ps) es plain apart ends =
      let more = λ (w : Bool). parts-ahead (part_token p) (in_name && is_name_part (part_token p)) w ps es in
      grind (arith, nat_tests, ahead-item, part-kept p, more)

  pub ahead-run : (at : MacroState) (s : Span) (es : List Token) → IsRunOf texts s → at.is_first ≡ false →
      let parts : List RunPart = run_parts texts s in
      let last : Token = last_token texts (token.Run s) in
      items_ahead texts at (map part_token parts ++ es)
      ≡ blank_if (has_blank texts at.in_name at.item at.gap (first_token texts (token.Run s)))
      ++ (replicate at.gap.line_ends item.LineEnd ++ (map part_item parts
      ++ items_ahead texts (after last (is_at_name at && are_words parts) es) (from_item es)))
  ahead-run at s es run first =
      let ends = run-ends texts s run in
      let e = part_token ends.first in
      let in_name = is_at_name at && is_name_part e in
      let whole : are_apart false (is_name_part e) ends.others ≡ true = grind arith in
      let stays : ends_in backslash texts (last_of e ends.others) ≡ false = ends.last.joins ∙ run.ends in
      let kept = part-kept ends.first _ ends.others es whole stays in
      let more = parts-ahead e in_name _ ends.others es (grind arith) whole stays in
      rw ends.parts (grind (arith, ahead-item texts at e (map part_token ends.others ++ es)))

  -- the items ahead of an item or a run, which is not dropped
  pub ahead-token : (at : MacroState) (e : Token) (gap : Gap) (es : List Token) → is_solid e ≡ true → IsRunIn texts e
      → (at.is_first ≡ true → is_run e ≡ false) → gap ≡ gap_of (left_gap texts at.is_first (last_token texts e) es)
      → is_dropped texts e gap ≡ false → items_ahead texts at (unfolded_token texts e ++ es)
      ≡ (blank_if (has_blank texts at.in_name at.item at.gap (first_token texts e))
      ++ replicate at.gap.line_ends item.LineEnd) ++ (written_items texts e ++ items_ahead texts (record {
        is_first = false;
        item = Some (last_token texts e);
        in_name = is_at_name at && are_name_parts texts e;
        gap = gap;
      }) (from_item es))
  ahead-token at (token.Run s) gap es solid run alone is kept =
      let first = false_from_ne_true at.is_first (λ h. let never = alone h in cc) in
      let is_left = rw first at is in
      rw is_left (ahead-run at s es run first ∙ sym (append_assoc _ (replicate at.gap.line_ends item.LineEnd) _))
  ahead-token at e gap es solid run alone is kept =
      let stays = subst (λ g. is_dropped texts e g ≡ false) is kept in
      rw is (grind (arith, append_assoc, ahead-item texts at e es solid stays))
