use Rattle.std.proofs.Common.{◌≡◌, ◌↔◌, ◌<◌, ℕ, length}
use Rattle.digraph.specs.Graph.{HasUse}
use Rattle.digraph.specs.Reach.{ContainsItself}
use Rattle.digraph.specs.Flags.{IsFlagged}
use Rattle.digraph.proofs.cycles.self_containing.Given as goal

abbrev pub invariant-loop-n : goal.invariant-loop-n
invariant-loop-n l = record {
  size : length l.flags.items ≡ l.n;
  flags : (k : ℕ) → k < l.n → (IsFlagged l.flags.items k ↔ ContainsItself (HasUse l.uses) k);
}
