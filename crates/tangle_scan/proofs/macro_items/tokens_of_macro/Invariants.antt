use Rattle.std.proofs.Common.{◌≡◌, ◌≤◌, ◌+◌, ◌++◌, true, length, take}
use Rattle.std.specs.List.{All, list_all}
use Rattle.std.specs.Option.{IfSome}
use Rattle.tangle_lexer.specs.Runs.{first_is_alone, unfolded, IsRunIn}
use Rattle.tangle_scan.specs.Rules.{texts_of, macro_items}
use Rattle.tangle_scan.specs.Passes.{items_ahead, is_solid, plain_state, spaced_items}
use Rattle.tangle_scan.proofs.macro_items.tokens_of_macro.Given as goal

abbrev pub invariant-loop-left : goal.invariant-loop-left
invariant-loop-left l = record {
  items : spaced_items (texts_of l.source.lines) l.spaced.items
      ++ items_ahead (texts_of l.source.lines) (plain_state (texts_of l.source.lines) l.at)
      (unfolded (texts_of l.source.lines) l.left)
      ≡ macro_items (texts_of l.source.lines) (unfolded (texts_of l.source.lines) l.tokens);
  spaced : All (IsRunIn (texts_of l.source.lines)) l.spaced.items;
  runs : All (IsRunIn (texts_of l.source.lines)) l.left;
  solid : list_all is_solid (take 1 l.left) ≡ true;
  alone : l.at.is_first ≡ true → first_is_alone l.left ≡ true;
  item : IfSome l.at.item (IsRunIn (texts_of l.source.lines));
  count : l.at.gap.line_ends + length l.left ≤ length l.tokens;
}

abbrev pub decreases-loop-left : goal.decreases-loop-left
decreases-loop-left l = length l.left
