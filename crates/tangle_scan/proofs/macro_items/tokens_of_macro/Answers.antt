use Rattle.std.proofs.Common.{rules}
use Rattle.std.proofs.lemmas.Bool.Decides.{nat_tests}
use Rattle.std.proofs.Common.{◌++◌, ◌∙◌, ap, arith, false, refl, sym}
use Rattle.std.proofs.lemmas.List.{nil_from_length}
use Rattle.std.proofs.lemmas.List.Elements.{All-nil}
use Rattle.tangle_lexer.specs.Runs.{unfolded, IsRunIn}
use Rattle.tangle_scan.specs.Rules.{texts_of}
use Rattle.tangle_scan.specs.Passes.{items_ahead, plain_state, spaced_items}
use Rattle.tangle_scan.proofs.lemmas.RestLemmas.{all-rest, rest, split}
use Rattle.tangle_scan.proofs.lemmas.MacroItemLemmas.{ahead-begin, ahead-end, first-solid}
use Rattle.tangle_scan.proofs.lemmas.MacroRunLemmas.{gap-unfolded, from-alone, from-runs}
use Rattle.tangle_scan.proofs.lemmas.SpacedTokens.{gap-pushed, gap-runs}
use Rattle.tangle_scan.proofs.macro_items.tokens_of_macro.Goals as goal

pub loop-left-init : goal.loop-left-init
loop-left-init c =
    let texts = texts_of c.args.source.now.lines in
    let tokens = c.args.tokens.now in
    let next = c.read_gap.ensures.next in
    record {
      items = rw (c.in_ok-spaced.ensures.items, next, c.no_gap.ensures)
          (ap (items_ahead texts _) (sym (gap-unfolded texts tokens c.requires.runs).1) ∙ ahead-begin texts _ (unfolded texts tokens) refl);
      spaced = rw c.in_ok-spaced.ensures.items (All-nil (IsRunIn texts));
      runs = rw next (from-runs texts tokens c.requires.runs);
      solid = rw next (first-solid tokens);
      alone = λ h. rw next (from-alone texts tokens c.requires.alone);
      item = tt;
      count = grind (arith, nat_tests);
    }

pub loop-left-preserved : goal.loop-left-preserved
loop-left-preserved c =
    let texts = texts_of c.args.source.now.lines in
    let before = c.loop-left.invariant in
    let left = c.loop-left.left.now in
    let some = c.in-len1-up.len_at_least in
    let runs = all-rest (IsRunIn texts) left some before.runs in
    let step = c.in_ok-at.ensures in
    let next = c.gap_after.ensures.next in
    record {
      items = rw (next, sym (gap-unfolded texts (rest left) runs).1)
          (step.items (unfolded texts (rest left)) c.gap_after.ensures.gap ∙ (rw (← split left some) at before.items));
      spaced = step.runs before.spaced;
      runs = rw next (from-runs texts (rest left) runs);
      solid = rw next (first-solid (rest left));
      alone = λ h. let never = rw step.next.0 at h in cc;
      item = step.next.1;
      count = grind (arith, nat_tests);
    }

pub returns-clause-items : goal.returns-clause-items
returns-clause-items c =
    let texts = texts_of c.args.source.now.lines in
    let spaced = c.loop-left.spaced.items in
    let before = c.loop-left.invariant in
    let none = ap (unfolded texts) (nil_from_length c.loop-left.left.now (omega (arith, c.in_default.len_below))) in
    rw c.in_ok-push_gap.ensures (gap-pushed texts spaced false c.loop-left.at.gap.line_ends
    ∙ (ap (λ t. spaced_items texts spaced ++ t) (sym (ahead-end texts (plain_state texts c.loop-left.at) _ _ none refl)) ∙ before.items))

pub returns-clause-runs : goal.returns-clause-runs
returns-clause-runs c =
    rw c.in_ok-push_gap.ensures (search (rules, gap-runs))
