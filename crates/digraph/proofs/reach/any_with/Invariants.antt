use Rattle.std.proofs.Common.{◌≢◌, ◌<◌, ℕ, false, get_or}
use Rattle.digraph.proofs.reach.any_with.Given as goal

abbrev pub invariant-loop-m : goal.invariant-loop-m
invariant-loop-m l = (k d : ℕ) → k < l.m-index → get_or l.flags (get_or l.row k d) false ≢ l.flag
