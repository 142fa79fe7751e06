-- Flags of the nodes that roots reach, and of those that reach roots, and what both together mean for a node.
use Rattle.std.proofs.Common.{rules}
use Rattle.std.proofs.Common.{◌≡◌, ℕ, Bool, List, get_or, subst, Contains}
use Rattle.digraph.specs.Graph.{Graph, HasUse, row_at}
use Rattle.digraph.specs.Reach.{Reaches, on, ContainsItself}
use Rattle.digraph.specs.Flags.{IsFlagged}
use Rattle.digraph.specs.Roots.{FromRoots, ToRoots}
use Rattle.digraph.proofs.ReachLemmas.{reaches_trans}

-- a node of the row that has this root and reaches it
abbrev pub LeadsTo : List ℕ → List Bool → List ℕ → ℕ → Type 0
LeadsTo roots flags row root = (m : ℕ) × Contains row m × (get_or roots m 0 ≡ root) × IsFlagged flags m

pub root_is_reached : (graph : Graph) (roots : List ℕ) (flags : List Bool) (n : ℕ)
    → ToRoots graph roots flags
    → LeadsTo roots flags (row_at graph n) (get_or roots n 0) → Reaches (HasUse graph) n (get_or roots n 0)
root_is_reached graph roots flags n p leads =
    subst (λ r. Reaches (HasUse graph) n r) leads.2
    (on leads.1 (p.sound leads.0 leads.3))

-- the node reaches itself through its root
pub by_root : (graph : Graph) (roots : List ℕ) (from to : List Bool) (n : ℕ)
    → FromRoots graph roots from → ToRoots graph roots to
    → IsFlagged from n → LeadsTo roots to (row_at graph n) (get_or roots n 0) → ContainsItself (HasUse graph) n
by_root graph roots from to n p q flagged leads = search (rules, reaches_trans)
