use Rattle.std.proofs.Common.{◌≡◌, ◌⊎◌, ℕ, Contains, slice_index}
use Rattle.digraph.specs.Flags.{IsFlagged}
use Rattle.digraph.proofs.roots.flag_row.Given as goal

abbrev pub invariant-loop-m : goal.invariant-loop-m
invariant-loop-m l =
    (m : ℕ) → IsFlagged l.flags m → IsFlagged l.initial.flags m ⊎ (Contains l.row m × (slice_index l.roots m ≡ l.root))
