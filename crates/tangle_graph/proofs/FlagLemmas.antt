-- One more node of the order is flagged or not.
use Rattle.std.proofs.Common.{rules}
use Rattle.std.proofs.lemmas.Bool.Decides.{nat_tests}
use Rattle.std.proofs.Common.{◌≡◌, ◌≢◌, ◌+◌, ◌<◌, ◌↔◌, ℕ, ◌||◌, Bool, true, false, List, length, take}
use Rattle.std.proofs.Common.{◌⊎◌, get_or, set, sym, inl, inr, arith, Contains}
use Rattle.std.proofs.Common.{get_or-set_same, get_or-set_other, length-take}
use Rattle.std.proofs.lemmas.List.{get_or-take, get_or_default, take_more}
use Rattle.std.specs.Bool.{Decides}
use Rattle.std.proofs.lemmas.Bool.Decides.{Decides-like, Decides-or}
use Rattle.std.proofs.lemmas.List.Folds.{Any-from_list_any, list_any_at}
use Rattle.std.proofs.lemmas.List.Elements.{Contains-push_cases}
use Rattle.tangle_bodies.specs.Shapes.{Title, Shapes, Uses}
use Rattle.digraph.specs.Nodes.{Node}
use Rattle.digraph.specs.Reach.{here, on}
use Rattle.tangle_graph.specs.Ordering.{IsOrderIn}
use Rattle.tangle_graph.specs.Stores.{StoreRead, IsStoreOf, IsNodeIn, flag_at, uses_at, title_in_store}
use Rattle.tangle_graph.proofs.NameLemmas.{use_of_title}
use Rattle.tangle_graph.specs.AffectedFlags.{ReachesNewShape, AreFlagged, uses_flagged}

-- an item among the first `i` of a list is at a position before `i`
pub in_front : {X : Type 0} (xs : List X) (i : ℕ) (x : X)
    → Contains (take i xs) x → (k : ℕ) × (k < i) × (k < length xs) × (get_or xs k x ≡ x)
in_front xs i x c = search (rules, length-take, get_or-take)

-- a node among the first `i + 1` that is not the one at position `i` is among the first `i`
pub in_next : (order : List Node) (i node a : Node) → i < length order → node ≡ get_or order i node
    → a ≢ node → Contains (take (i + 1) order) a → Contains (take i order) a
in_next order i node a h at other c =
    grind (arith, nat_tests, take_more order i node h, Contains-push_cases (take i order) node a)

-- One step along the order. `P` holds of what is among the first `i` nodes under a premise. `Q`
-- holds of the node at position `i`, and of another node where `P` does. So `Q` holds of what is
-- among the first `i + 1` nodes under the premise.
pub value_next : (order : List Node) (i node : Node) → i < length order → node ≡ get_or order i node
    → (P Q : Node → Type 0) → ((a : Node) → a ≢ node → P a → Q a) → Q node
    → (Premise : Type 0) (a : Node) → ((Premise → Contains (take i order) a) → P a)
    → (Premise → Contains (take (i + 1) order) a) → Q a
value_next order i node h at P Q stays own Premise a was into =
    grind (arith, nat_tests, in_next order i node a h at)

-- a node that reaches a new shape has one, or uses a name that reaches one
first_step : (old new : Shapes) (t : Title) → ReachesNewShape old new t
    → (new t ≢ old t) ⊎ ((used : Title) × Uses new t used × ReachesNewShape old new used)
first_step old new t r = grind (arith, nat_tests)

module _ (store : StoreRead) (order : List Node) (ordered : IsOrderIn store order)
    (i : ℕ) (inside : i < length order) (node : Node) (at : node ≡ get_or order i node) where
  -- the node at a position of the order, and one before it
  pub at_position : IsNodeIn store node
  at_position = ordered.inside node (i, inside, sym at)

  pub after_used : (m : Node) → Contains (uses_at store node) m → Contains (take i order) m
  after_used m used = search (rules, get_or_default)

  module _ (old new : Shapes) (is : IsStoreOf new store) (flags : List Bool)
      (are : AreFlagged old new store flags (take i order)) where
    -- a name that the node uses reaches a new shape exactly if the node uses a flagged node
    uses_decide : Decides (uses_flagged store flags node)
        ((used : Title) × Uses new (title_in_store store node) used × ReachesNewShape old new used)
    uses_decide = (
      λ some. (let found = Any-from_list_any (flag_at flags) (uses_at store node) some in
          let used : Contains (uses_at store node) found.1 = (found.0, found.2, found.3) in (
            title_in_store store found.1,
            ((is.uses node found.1 at_position).0 used).1,
            (are found.1 (after_used found.1 used)).0 found.4,
          )),
      λ some. (let m = use_of_title new store node some.0 is at_position some.1 in
          let flagged = list_any_at (flag_at flags) (uses_at store node) m.1.0 m.0 in
          grind (arith, nat_tests, flagged, are m.0 (after_used m.0 m.1))),
    )

    pub flagged_next : (own : Bool) → length flags ≡ length store.names + 1
        → ((own ≡ true) ↔ (new (title_in_store store node) ≢ old (title_in_store store node)))
        → AreFlagged old new store (set flags node (own || uses_flagged store flags node)) (take (i + 1) order)
    flagged_next own size is_new = λ a c. value_next order i node inside at
        (λ a. (flag_at flags a ≡ true) ↔ ReachesNewShape old new (title_in_store store a))
        (λ a. (flag_at (set flags node (own || uses_flagged store flags node)) a ≡ true)
        ↔ ReachesNewShape old new (title_in_store store a)) (search (rules, get_or-set_other))
        (rw (get_or-set_same flags node (own || uses_flagged store flags node) false (omega (
          arith,
          at_position,
        )))
        (Decides-like _ (λ some. elim some [
          | inl differs ↦ (title_in_store store node, here, differs)
          | inr used ↦ (used.2.0, on {b = used.0} used.1 used.2.1, used.2.2)
        ]) (first_step old new (title_in_store store node))
        (Decides-or own (uses_flagged store flags node) is_new uses_decide)))
        (Unit {0}) a (λ all. are a (all tt)) (λ _. c)
