use Rattle.std.proofs.Common.{◌≡◌, ◌≤◌, ◌+◌, ◌||◌, length}
use Rattle.tangle_scan.specs.Rules.{has_join}
use Rattle.tangle_scan.specs.Passes.{gap_before, from_item, has_white, line_ends}
use Rattle.tangle_scan.proofs.macro_items.read_gap.Given as goal

abbrev pub invariant-loop-left : goal.invariant-loop-left
invariant-loop-left l = record {
  join : (l.gap.has_join || has_join (gap_before l.left)) ≡ has_join (gap_before l.tokens);
  white : (l.gap.has_white || has_white (gap_before l.left)) ≡ has_white (gap_before l.tokens);
  ends : l.gap.line_ends + line_ends (gap_before l.left) ≡ line_ends (gap_before l.tokens);
  next : from_item l.left ≡ from_item l.tokens;
  count : l.gap.line_ends + length l.left ≤ length l.tokens;
}

abbrev pub decreases-loop-left : goal.decreases-loop-left
decreases-loop-left l = length l.left
