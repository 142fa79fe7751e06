-- One more node is added to an order.
use Rattle.std.proofs.Common.{◌≡◌, ◌≢◌, ◌<◌, ◌∙◌, ℕ, Bool, true, false, List, [], ◌∷◌, ◌++◌, length}
use Rattle.std.proofs.Common.{get_or, set, sym, subst, arith, length-append, length-set, get_or-set_same}
use Rattle.std.proofs.Common.{get_or-set_other, Contains, true≢false}
use Rattle.std.proofs.lemmas.List.{get_or_push, get_or_append_left, take_at, take-append-le}
use Rattle.std.proofs.lemmas.List.Elements.{Contains-append_left, Contains-push, Contains-push_cases}
use Rattle.std.proofs.lemmas.List.Elements.{All-push, Contains-get_or}
use Rattle.std.proofs.lemmas.List.Quantifiers.{all_pairs_push}
use Rattle.std.proofs.lemmas.Bool.Decides.{nat_tests}
use Rattle.std.proofs.lemmas.Bool.{true_from_ne_false}
use Rattle.std.proofs.Math.Decide.{ℕ_discrete}
use Rattle.digraph.specs.Graph.{Graph, HasUse}
use Rattle.digraph.specs.Order.{IsAfterUses}
use Rattle.digraph.specs.OrderSoFar.{IsOrderSoFar}

after_push : (graph : Graph) (order : List ℕ) (n : ℕ)
    → IsAfterUses graph order → n < length graph → (Contains order n → ⊥)
    → ((m : ℕ) → HasUse graph n m → Contains order m) → IsAfterUses graph (order ++ n ∷ [])
after_push graph order n p inside new listed = record {
  nodes = All-push (λ m. m < length graph) order n p.nodes inside;
  once = all_pairs_push (λ a b. a ≢ b) order n p.once
      (λ k d h same. new (subst (Contains order) same (Contains-get_or order k d h)));
  after = λ k m h. elim (ℕ_discrete k (length order)) [
    | yes e ↦ rw (take_at order (n ∷ []) k (sym e), get_or_push order n 0 k (sym e)) (listed m)
    | no other ↦ (let low : k < length order = omega (arith, length-append order (n ∷ [])) in
        rw (take-append-le k order (n ∷ []) (omega arith), get_or_append_left order (n ∷ []) 0 k low) (p.after k m low))
  ];
}

-- the next node is one without a flag that uses no node without one
pub order_push : (graph : Graph) (flags : List Bool) (order : List ℕ) (n : ℕ)
    → IsOrderSoFar graph flags order → n < length graph → get_or flags n false ≡ false
    → ((m : ℕ) → HasUse graph n m → get_or flags m false ≢ false) → IsOrderSoFar graph (set flags n true) (order ++ n ∷ [])
order_push graph flags order n p inside free all = record {
  size = length-set flags n true ∙ p.size;
  flagged = λ m.
      let here = get_or-set_same flags n true false (omega (arith, p.size, inside)) in
      let stays = get_or-set_other flags n m true false in
      let old = Contains-append_left order (n ∷ []) m in
      grind (arith, nat_tests, here, stays, old, Contains-push order n, Contains-push_cases order n m, p.flagged m);
  after_uses = after_push graph order n p.after_uses inside (λ c. true≢false (sym ((p.flagged n).1 c) ∙ free))
      (λ m u. (p.flagged m).0 (true_from_ne_false (get_or flags m false) (all m u)));
}
