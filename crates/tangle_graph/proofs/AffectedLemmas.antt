-- The nodes that are listed along the order are the affected ones.
use Rattle.std.proofs.Common.{rules}
use Rattle.std.proofs.lemmas.Bool.Decides.{nat_tests}
use Rattle.std.proofs.Common.{◌≡◌, ◌≢◌, ◌<◌, ◌≤◌, ℕ, zero, Bool, List, [], ◌∷◌, length, take, get_or, refl}
use Rattle.std.proofs.Common.{arith, Contains}
use Rattle.std.specs.List.{filter}
use Rattle.std.proofs.Math.Decide.{dec_lt}
use Rattle.std.proofs.lemmas.List.{get_or-take, get_or_default}
use Rattle.std.proofs.lemmas.List.Elements.{Contains-get_or}
use Rattle.std.proofs.lemmas.List.Kept.{AllPairs-filter}
use Rattle.tangle_bodies.specs.Shapes.{Shapes, Uses}
use Rattle.digraph.specs.Nodes.{Node, program}
use Rattle.tangle_graph.specs.Ordering.{IsOrderIn}
use Rattle.tangle_graph.specs.Stores.{StoreRead, IsStoreOf, title_in_store}
use Rattle.tangle_graph.specs.Stores.{uses_at}
use Rattle.tangle_graph.specs.Affected.{ListsAffected}
use Rattle.tangle_graph.specs.AffectedFlags.{AreFlagged, is_expandable_and_flagged}
use Rattle.tangle_names.proofs.ContainsLemmas.{into_filter, out_of_filter}
use Rattle.tangle_graph.proofs.FlagLemmas.{in_front}
use Rattle.tangle_graph.proofs.ExpandLemmas.{expandable_at}

module _ (shapes : Shapes) (store : StoreRead) (order : List Node)
    (is : IsStoreOf shapes store) (ordered : IsOrderIn store order) where
  -- a node uses none that is not before it in the order
  before_only : (i j : ℕ) (d : Node) → i ≤ j → j < length order
      → Contains (uses_at store (get_or order i d)) (get_or order j d) → ⊥
  before_only i j d le h u =
      let b = get_or order j d in
      grind (arith, nat_tests, in_front order i b, get_or_default order i d, get_or_default order j d b h)

  -- so a node of a filter of the order comes after those of the filter that it uses
  filtered_after : (p : Node → Bool) (k : ℕ) (used : Node)
      → k < length (filter p order) → Contains (filter p order) used
      → Uses shapes (title_in_store store (get_or (filter p order) k program)) (title_in_store store used)
      → Contains (take k (filter p order)) used
  filtered_after p k used h c u =
      let listed = filter p order in
      let node = get_or listed k program in
      let there = (out_of_filter p order node (Contains-get_or listed k program h)).0 in
      let uses : Contains (uses_at store node) used = (is.uses node used (ordered.inside node there)).1
      (ordered.inside used (out_of_filter p order used c).0, u) in
      elim (dec_lt c.0 k) [
        | yes low ↦ search (rules, get_or-take)
        | no high ↦ grind (
          arith,
          nat_tests,
          get_or_default listed c.0 used program c.1,
          before_only there.0 there.0 node,
          AllPairs-filter (λ a b. Contains (uses_at store a) b → ⊥) p order (λ i j d less. before_only
              i j d (omega arith)) k c.0 used,
          get_or_default listed k used program h,
        )
      ]

  module _ (old : Shapes) (flags : List Bool) (are : AreFlagged old shapes store flags order) where
    pub lists_affected : ListsAffected old shapes store (filter (is_expandable_and_flagged store flags) order)
    lists_affected = (let p = is_expandable_and_flagged store flags in record {
      once = AllPairs-filter (λ a b. a ≢ b) p order ordered.once;
      just = λ a. (
        λ c. (let test = expandable_at shapes store is a in
            grind (arith, nat_tests, out_of_filter p order a c, ordered.inside a, are a, test)),
        λ is_so. (let test = expandable_at shapes store is a in
            grind (arith, nat_tests, ordered.inside a, ordered.expandable a, are a, test, into_filter p order a)),
      );
      after = filtered_after p;
    })

pub no_element : (nodes : List Node) → ((a : Node) → Contains nodes a → ⊥) → nodes ≡ []
no_element [] none = refl
no_element (a ∷ nodes) none = absurd (none a (zero, omega arith, refl))
