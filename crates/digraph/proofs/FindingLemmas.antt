-- The nodes that reach the target are all found once nothing changes.
use Rattle.std.proofs.Common.{◌≡◌, ◌<◌, ℕ, Bool, List, length, inl, inr, refl}
use Rattle.digraph.specs.Graph.{Graph, HasUse}
use Rattle.digraph.specs.Reach.{Reaches, here, on}
use Rattle.digraph.specs.Flags.{IsFlagged, FlagsJust}
use Rattle.digraph.specs.Finding.{IsFinding, IsDecided, ReachesNode}
use Rattle.digraph.proofs.GraphLemmas.{node_in}

module _ (graph : Graph) (found : List Bool) (target : ℕ)
    (decided : (n : ℕ) → n < length graph → IsDecided graph target found n) where
  complete : (a k : ℕ) → k < length graph → Reaches (HasUse graph) a k → k ≡ target → IsFlagged found a
  complete a k low here e = elim (decided a low) [ inl was ↦ was | inr not ↦ absurd (not.0 e) ]
  complete a k low (on {b = m} u r) e =
      elim (decided a (node_in graph a m u)) [ inl was ↦ was | inr not ↦ absurd (not.1 m u (complete m k low r e)) ]

  pub all_decided : target < length graph → IsFinding graph target found
      → FlagsJust graph found (ReachesNode graph target)
  all_decided low finding n h = (finding.sound n, λ r. complete n target low r refl)
