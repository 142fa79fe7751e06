-- Induction along an order for its nodes, and on the fuel for the nodes that are left out.
use Rattle.std.proofs.lemmas.Bool.Decides.{nat_tests}
use Rattle.std.proofs.Common.{rules}
use Rattle.std.proofs.Common.{◌≡◌, ◌<◌, ◌∙◌, ℕ, zero, suc, List, length, take, get_or, subst, arith, Contains}
use Rattle.std.proofs.Common.{length-take}
use Rattle.std.proofs.lemmas.List.{get_or_default, get_or-take}
use Rattle.digraph.specs.Graph.{Graph, HasUse, InRange}
use Rattle.digraph.specs.Reach.{Reaches, here, on, ContainsItself, ReachesCycle}
use Rattle.digraph.specs.Order.{IsAfterUses, IsOrder}
use Rattle.digraph.proofs.GraphLemmas.{use_in}

-- an item among the first `k` is at a position below `k`
earlier : (order : List ℕ) (k m : ℕ)
    → Contains (take k order) m → (j : ℕ) × (j < k) × (j < length order) × (get_or order j 0 ≡ m)
earlier order k m c = search (rules, length-take, get_or_default, get_or-take)

module _ (graph : Graph) (order : List ℕ) (after_uses : IsAfterUses graph order)
    (P : ℕ → Type 0) (step : (n : ℕ) → ((m : ℕ) → HasUse graph n m → P m) → P n) where
  below : (bound k : ℕ) → k < bound → k < length order → P (get_or order k 0)
  below zero k h room = absurd (omega arith)
  below (suc bound) k h room = step (get_or order k 0) (λ m u.
      grind (arith, nat_tests, earlier order k m, below bound))

  -- if each node has a property where all nodes that it uses have it, then each node in the order has it
  pub along : (n : ℕ) → Contains order n → P n
  along n c = subst P (get_or_default order c.0 0 n c.1 ∙ c.2) (below (suc c.0) c.0 (omega arith) c.1)

-- if a node has a property with one more fuel than a node that it uses, each node that is left out has it with any fuel
pub left_out_deep : (graph : Graph) (order : List ℕ)
    → IsOrder graph order → InRange graph → (P : ℕ → ℕ → Type 0) → ((n : ℕ) → P zero n)
    → ((fuel n m : ℕ) → HasUse graph n m → P fuel m → P (suc fuel) n) → (fuel n : ℕ)
    → n < length graph → (Contains order n → ⊥) → P fuel n
left_out_deep graph order is range P start up zero n h out = start n
left_out_deep graph order is range P start up (suc fuel) n h out =
    let next = is.rest n h out in
    up fuel n next.0 next.1
    (left_out_deep graph order is range P start up fuel next.0 (use_in graph range n next.0 next.1) next.2)

-- a node that reaches a cycle uses a node that reaches it
pub cycle_used : {X : Type 0} (Uses : X → X → Type 0) (n k : X)
    → Reaches Uses n k → ContainsItself Uses k → (m : X) × Uses n m × ReachesCycle Uses m
cycle_used Uses n k here c = (c.0, c.1, (n, c.2, c))
cycle_used Uses n k (on {b = m} u r) c = (m, u, (k, r, c))

pub ordered_acyclic : (graph : Graph) (order : List ℕ) (n : ℕ)
    → IsOrder graph order → Contains order n → ReachesCycle (HasUse graph) n → ⊥
ordered_acyclic graph order n is = along graph order is.after_uses (λ k. ReachesCycle (HasUse graph) k → ⊥)
    (λ k below c. let next = cycle_used (HasUse graph) k c.0 c.1 c.2 in below next.0 next.1 next.2) n
