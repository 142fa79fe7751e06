-- The expansion of one more node is kept, and what is kept at the end.
use Rattle.std.proofs.Common.{rules}
use Rattle.std.proofs.Common.{◌≡◌, ◌∙◌, ◌+◌, ◌<◌, ◌≤◌, ◌++◌, ℕ, Bool, true, false, cond, List, [], ◌∷◌, length, take}
use Rattle.std.proofs.Common.{get_or, zero, suc, ap, sym, append_assoc, arith, inl, inr, Contains}
use Rattle.std.specs.List.{filter}
use Rattle.std.proofs.lemmas.List.{take_all}
use Rattle.std.proofs.lemmas.List.Elements.{filter_more}
use Rattle.std.proofs.lemmas.Bool.{both_ways, cases_Bool}
use Rattle.tangle_graph.proofs.NameLemmas.{empty_unless}
use Rattle.tangle_expansion.proofs.SameShapes.{used_expandable}
use Rattle.tangle_expansion.specs.Expanded.{symbols_if_any, used_titles}
use Rattle.tangle_expansion.specs.Limits.{levels, heaviest, flat_of}
use Rattle.tangle_bodies.specs.Flat.{flat, pieces_flat}
use Rattle.tangle_bodies.specs.Shapes.{Title, Named, Shape, Shapes}
use Rattle.tangle_expansion.specs.declared.kept.Kept.{Kept}
use Rattle.digraph.specs.Nodes.{Node}
use Rattle.tangle_graph.specs.Ordering.{IsOrderIn}
use Rattle.tangle_graph.specs.Stores.{StoreRead, IsStoreOf, KeepsUsed, IsNodeIn, is_expandable_at, title_in_store}
use Rattle.tangle_graph.specs.Stores.{uses_at}
use Rattle.tangle_graph.proofs.ExpandLemmas.{expandable_at, expandable_in}
use Rattle.tangle_graph.specs.Keeping.{IsKept, KeepsJust, PutsRight}
use Rattle.tangle_graph.proofs.FlagLemmas.{after_used, at_position, in_next, value_next}

-- the right expansion is kept of each expandable node among these, and none of a node that is not
-- expandable
abbrev pub AreKept : Shapes → StoreRead → List Node → Kept → Type 0
AreKept shapes store nodes kept =
    (node : Node) → (is_expandable_at store node ≡ true → Contains nodes node) → IsKept shapes store kept node

flat_empty : (all : Shapes) (node : Title) → all node ≡ [] → flat_of all node ≡ []
unfolding levels
flat_empty all node e = ap (λ (s : Shape). pieces_flat (λ name. flat 1000 all (Named name)) node 0 s) e

module _ {shapes : Shapes} {store : StoreRead} {order : List Node}
    (is : IsStoreOf shapes store) (ordered : IsOrderIn store order) where
  module _ (i : ℕ) (h : i < length order) (node : Node) (at : node ≡ get_or order i node) where
    -- the expansion of a used name is kept, if the name has a piece, and else none
    used_kept : (kept : Kept) → is_expandable_at store node ≡ true
        → AreKept shapes store (take i order) kept → KeepsUsed shapes store kept node
    used_kept kept flag keeps zero u = absurd u.uses
    used_kept kept flag keeps (suc id) u =
        let here : IsNodeIn store node = at_position store order ordered i h node at in
        let next : Contains (uses_at store node) (suc id) = (is.uses node (suc id) here).1 (u.inside, u.uses) in
        let user = (expandable_at shapes store is node here).0 flag in
        let none : is_expandable_at store (suc id) ≡ false → flat_of shapes (title_in_store store (suc id)) ≡ [] =
        λ off. flat_empty shapes _ (empty_unless _
        (λ has. both_ways _ off ((expandable_at shapes store is (suc id) u.inside).1
        (used_expandable levels heaviest shapes _ _ user u.uses has)))) in
        let right = keeps (suc id)
        (λ _. after_used store order ordered i h node at (suc id) next) in
        let given = symbols_if_any (used_titles shapes) (title_in_store store (suc id)) in
        elim (cases_Bool (is_expandable_at store (suc id))) [
          | inl on ↦ (let e = right.expandable on in ap given e.1 ∙ e.2)
          | inr off ↦ ap given (right.other off) ∙ sym (none off)
        ]

    pub kept_more : (before after : Kept) → is_expandable_at store node ≡ true
        → AreKept shapes store (take i order) before
        → (KeepsUsed shapes store before node → PutsRight shapes store before after node)
        → AreKept shapes store (take (i + 1) order) after
    kept_more before after flag keeps made a into =
        let puts = made (used_kept before flag keeps) in
        value_next order i node h at (IsKept shapes store before) (IsKept shapes store after)
        (λ b other was. record {
          expandable = λ on. (let e = was.expandable on in (e.0, puts.1.others b other ∙ e.1, e.2));
          other = λ off. puts.1.others b other ∙ was.other off;
        })
        (record { expandable = λ on. (puts.0, puts.1.put, puts.2); other = λ off. absurd (both_ways _ off flag) })
        (is_expandable_at store a ≡ true) a (keeps a) into

    pub kept_same : (kept : Kept) → is_expandable_at store node ≡ false
        → AreKept shapes store (take i order) kept → AreKept shapes store (take (i + 1) order) kept
    kept_same kept flag keeps a into = keeps a (λ on. in_next order i node a h at
        (λ same. both_ways _ flag (rw same at on)) (into on))

  pub kept_all : (i : ℕ) (kept : Kept)
      → length order ≤ i → AreKept shapes store (take i order) kept → KeepsJust shapes store kept
  kept_all i kept h keeps node = keeps node (λ e. rw (take_all i order h)
      (ordered.expandable node (expandable_in shapes store is node e) e))

-- one more node of the order is listed or not
pub listed_more : (p : Node → Bool) (order : List Node) (i : ℕ) (node : Node) (b : Bool) (before work after : List Node)
    → i < length order → node ≡ get_or order i node → p node ≡ b → work ≡ before ++ filter p (take i order)
    → after ≡ work ++ cond b (node ∷ []) [] → after ≡ before ++ filter p (take (i + 1) order)
listed_more p order i node b before work after h at flag is e = search (rules, append_assoc, filter_more)
