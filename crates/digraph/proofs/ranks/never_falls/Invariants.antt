use Rattle.std.proofs.Common.{◌<◌, ◌≤◌, ℕ, slice_index}
use Rattle.digraph.specs.Graph.{HasUse}
use Rattle.digraph.proofs.ranks.never_falls.Given as goal

abbrev pub invariant-loop-n : goal.invariant-loop-n
invariant-loop-n l = (k m : ℕ) → k < l.n → HasUse l.uses k m → slice_index l.ranks k ≤ slice_index l.ranks m
