-- The body of a node, as it is in a store.
use Rattle.std.proofs.Common.{◌≡◌, ◌∙◌, ◌<◌, ℕ, true, get_or, length, ap, arith, sym, subst}
use Rattle.std.specs.Prelude.{Some, slice_get}
use Rattle.std.specs.Global.{Global}
use Rattle.std.specs.declared.rc.Rc.{Rc}
use Rattle.std.proofs.lemmas.List.{length-map}
use Rattle.digraph.specs.Nodes.{Node}
use Rattle.tangle_bodies.specs.declared.nodes.NodeBody.{NodeBody}
use Rattle.tangle_bodies.specs.NodeBodies.{IsBodyOf}
use Rattle.tangle_graph.specs.Stores.{StoreRead, IsNodeIn, IsStoreOf, body_at, is_expandable_at}
use Rattle.tangle_graph.specs.StoreView.{StoreInvariant, store_read}
use Rattle.tangle_graph.specs.declared.store.Store.TheInside.{Inside}
use Rattle.tangle_bodies.proofs.EachLemmas.{read}
use Rattle.tangle_graph.proofs.ExpandLemmas.{expandable_in}

module _ (inside : Inside) (store : StoreRead) (node : Node)
    (is : store_read inside ≡ store) (holds : StoreInvariant inside) where
  is_store : IsStoreOf holds.shapes store
  is_store = subst (IsStoreOf holds.shapes) is holds.store

  pub in_store : is_expandable_at store node ≡ true → IsNodeIn store node
  in_store e = expandable_in holds.shapes store is_store node e

  module _ (n : ℕ) (number : n ≡ node) (here : IsNodeIn store node) where
    pub low : n < length inside.bodies.value.items
    low = omega (arith, is_store.bodies.size, ap (λ (s : StoreRead). length s.bodies) is, length-map inside.bodies.value.items (λ (t : Rc NodeBody Global). t.value))

    module _ (body : Rc NodeBody Global) (at : body ≡ get_or inside.bodies.value.items n body) where
      pub had : body_at store node ≡ Some body.value
      had = ap (slice_get store.bodies) (sym number)
          ∙ ap (λ (s : StoreRead). slice_get s.bodies n) (sym is) ∙ read inside.bodies.value.items n body low at

      pub given : IsBodyOf holds.shapes store.names node body.value
      given = is_store.bodies.each node body.value had
