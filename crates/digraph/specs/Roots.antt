-- Flags of nodes that their roots reach or that reach their roots, and ranks.
use Rattle.std.specs.Prelude.{◌≤◌, ℕ, Bool, List, slice_index}
use Rattle.digraph.specs.Graph.{Graph, HasUse}
use Rattle.digraph.specs.Flags.{FlagsOnly}
use Rattle.digraph.specs.Reach.{Reaches}

-- each flagged node is reached from its root
abbrev pub FromRoots : Graph → List ℕ → List Bool → Type 0
FromRoots graph roots flags =
    FlagsOnly graph flags (λ n. Reaches (HasUse graph) (slice_index roots n) n)

-- each flagged node reaches its root
abbrev pub ToRoots : Graph → List ℕ → List Bool → Type 0
ToRoots graph roots flags =
    FlagsOnly graph flags (λ n. Reaches (HasUse graph) n (slice_index roots n))

-- along no use the rank falls
abbrev pub NeverFalls : Graph → List ℕ → Type 0
NeverFalls graph ranks = (n m : ℕ) → HasUse graph n m → slice_index ranks n ≤ slice_index ranks m
