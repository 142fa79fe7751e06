use Rattle.std.proofs.Common.{◌≡◌, ◌≤◌, ◌++◌, length, reverse}
use Rattle.digraph.specs.Links.{chain}
use Rattle.digraph.proofs.growing.collect.Given as goal

abbrev pub invariant-loop-place : goal.invariant-loop-place
invariant-loop-place g l = record {
  place : l.place ≤ length l.links;
  row : chain (reverse l.links) l.fn.last ≡ chain (reverse l.links) l.place ++ reverse l.row.items;
}

abbrev pub decreases-loop-place : goal.decreases-loop-place
decreases-loop-place g l = l.place
