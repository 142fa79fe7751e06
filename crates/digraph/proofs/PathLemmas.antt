-- From a node that is left out of an order, nodes that are left out lead to one that comes again.
use Rattle.std.proofs.Common.{rules}
use Rattle.std.proofs.Common.{◌<◌, ◌↔◌, ℕ, zero, suc, Bool, true, false, List, length, get_or, set, replicate}
use Rattle.std.proofs.Common.{ap, cond, not, inl, inr, arith, Contains}
use Rattle.std.proofs.lemmas.Bool.{cases_Bool}
use Rattle.std.proofs.lemmas.List.Sums.{sum_by-set}
use Rattle.std.proofs.lemmas.List.{get_or-replicate, get_or_past, length-replicate}
use Rattle.digraph.specs.Graph.{Graph, HasUse, InRange}
use Rattle.digraph.specs.Reach.{Reaches, here, on, ReachesCycle}
use Rattle.digraph.specs.Flags.{FlagsOnly}
use Rattle.digraph.specs.Order.{IsOrder}
use Rattle.digraph.specs.OrderSoFar.{unflagged}
use Rattle.digraph.proofs.GraphLemmas.{use_in}
use Rattle.digraph.proofs.OrderLemmas.{ordered_acyclic}
use Rattle.digraph.proofs.ReachLemmas.{only_set, reaches_trans}
use Rattle.digraph.proofs.UserLemmas.{among}

module _ (graph : Graph) (range : InRange graph) (order : List ℕ) (is : IsOrder graph order) where
  -- each node that was visited reaches `n`
  walk : (fuel : ℕ) (visited : List Bool) (n : ℕ) → unflagged visited < fuel
      → FlagsOnly graph visited (λ k. Reaches (HasUse graph) k n) → n < length graph → (Contains order n → ⊥)
      → ReachesCycle (HasUse graph) n
  walk zero visited n few reach h out = absurd (omega arith)
  walk (suc fuel) visited n few reach h out =
      let next = is.rest n h out in
      let low = use_in graph range n next.0 next.1 in
      elim (cases_Bool (get_or visited next.0 false)) [
        | inl was ↦ (n, here, (next.0, next.1, reach.sound next.0 was))
        | inr new ↦ (let left : Bool → ℕ = λ b. cond (not b) 1 0 in
            let room : next.0 < length visited = omega (arith, low, reach.size) in
            let fewer : unflagged (set visited next.0 true) < fuel =
            omega (arith, sum_by-set left visited next.0 true false room, ap left new) in
            let c = walk fuel (set visited next.0 true) next.0 fewer (only_set graph visited next.0 (record {
              size = reach.size;
              sound = λ k f. reaches_trans (HasUse graph) k n next.0 (reach.sound k f) (on next.1 here);
            }) here) low next.2 in
            (c.0, on next.1 c.1, c.2))
      ]

  pub left_out_cycles : (n : ℕ) → n < length graph → (Contains order n → ⊥) → ReachesCycle (HasUse graph) n
  left_out_cycles n h out = walk (suc (unflagged none)) none n (omega arith) (record {
    size = length-replicate (length graph) false;
    sound = λ k f. search (rules, get_or-replicate, get_or_past, length-replicate);
  }) h out
    where
      none : List Bool
      none = replicate (length graph) false

  pub held : (n : ℕ) → n < length graph → Contains order n ↔ (ReachesCycle (HasUse graph) n → ⊥)
  held n h = (
    ordered_acyclic graph order n is,
    λ acyclic. elim (among order n) [ inl c ↦ c | inr out ↦ absurd (acyclic (left_out_cycles n h out)) ],
  )
