use Rattle.std.proofs.Common.{◌≤◌, ◌<◌, ℕ, get_or, slice_index}
use Rattle.digraph.proofs.ranks.lowest.Given as goal

abbrev pub invariant-loop-m : goal.invariant-loop-m
invariant-loop-m l = (k d : ℕ) → k < l.m-index → l.low ≤ slice_index l.ranks (get_or l.row k d)
