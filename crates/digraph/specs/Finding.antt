-- Flags of the nodes that were found to reach a target, while the search goes on.
use Rattle.std.specs.Prelude.{◌⊎◌, ◌≢◌, ℕ, Bool, List}
use Rattle.digraph.specs.Graph.{Graph, HasUse}
use Rattle.digraph.specs.Flags.{FlagsOnly, IsFlagged}
use Rattle.digraph.specs.Reach.{Reaches}

-- the node reaches the target, which reaches itself
abbrev pub ReachesNode : Graph → ℕ → ℕ → Type 0
ReachesNode graph target n = Reaches (HasUse graph) n target

-- each node that was found reaches the target
abbrev pub IsFinding : Graph → ℕ → List Bool → Type 0
IsFinding graph target found = FlagsOnly graph found (ReachesNode graph target)

-- the node was found, or nothing so far shows that it reaches the target: it is another node, and
-- uses no node that was found
abbrev pub IsDecided : Graph → ℕ → List Bool → ℕ → Type 0
IsDecided graph target found n =
    IsFlagged found n ⊎ ((n ≢ target) × ((m : ℕ) → HasUse graph n m → ¬ (IsFlagged found m)))
