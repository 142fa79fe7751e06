-- Reaching along several uses, and what ranks that never fall exclude.
use Rattle.std.proofs.Common.{rules}
use Rattle.std.proofs.Common.{◌<◌, ◌≤◌, ◌∙◌, ℕ, Bool, true, false, List, get_or, set}
use Rattle.std.proofs.Common.{arith, All, get_or-set_other, length-set, ◌≡◌, subst}
use Rattle.std.proofs.lemmas.Bool.Decides.{nat_tests}
use Rattle.digraph.specs.Graph.{Graph, HasUse, row_at}
use Rattle.digraph.specs.Reach.{Reaches, here, on, ContainsItself}
use Rattle.digraph.specs.Flags.{FlagsOnly}
use Rattle.digraph.specs.Roots.{NeverFalls}

pub here_at : {X : Type 0} (Uses : X → X → Type 0) (a b : X) → a ≡ b → Reaches Uses a b
here_at Uses a b e = subst (Reaches Uses a) e here

pub reaches_trans : {X : Type 0} (Uses : X → X → Type 0) (a b c : X)
    → Reaches Uses a b → Reaches Uses b c → Reaches Uses a c
reaches_trans Uses a b c here s = s
reaches_trans Uses a b c (on {b = m} u r) s = on u (reaches_trans Uses m b c r s)

pub ranks_rise : (graph : Graph) (ranks : List ℕ) → NeverFalls graph ranks → (a b : ℕ)
    → Reaches (HasUse graph) a b → get_or ranks a 0 ≤ get_or ranks b 0
ranks_rise graph ranks rising a b here = omega arith
ranks_rise graph ranks rising a b (on {b = m} u r) = omega (arith, rising a m u, ranks_rise graph ranks rising m b r)

-- a node whose rank is below those of all nodes that it uses does not contain itself
pub not_itself : (graph : Graph) (ranks : List ℕ) (n low : ℕ) → NeverFalls graph ranks
    → All (λ m. low ≤ get_or ranks m 0) (row_at graph n) → get_or ranks n 0 < low → ContainsItself (HasUse graph) n → ⊥
not_itself graph ranks n low rising above less c = search (rules, ranks_rise)

-- one more node with the property is flagged
pub only_set : {HasIt : ℕ → Type 0} (graph : Graph) (flags : List Bool) (n : ℕ)
    → FlagsOnly graph flags HasIt → HasIt n → FlagsOnly graph (set flags n true) HasIt
only_set {HasIt} graph flags n only has = record {
  size = length-set flags n true ∙ only.size;
  sound = λ m f. grind (arith, nat_tests, get_or-set_other flags n m true false, only.sound m);
}
