-- One more body, with its flag.
use Rattle.std.proofs.lemmas.Bool.Decides.{nat_tests}
use Rattle.std.proofs.lemmas.Grind.{common_steps}
use Rattle.std.proofs.lemmas.Option.{gets}
use Rattle.std.proofs.Common.{◌≡◌, ℕ, Bool, false, List, [], ◌∷◌, ◌++◌, length, get_or}
use Rattle.std.proofs.Common.{arith}
use Rattle.std.specs.Global.{Global}
use Rattle.std.specs.declared.rc.Rc.{Rc}
use Rattle.std.specs.Prelude.{slice_get, IfSome, None, Option, Some}
use Rattle.std.proofs.lemmas.List.{length-map, map-append}
use Rattle.tangle_bodies.specs.declared.nodes.NodeBody.{NodeBody}
use Rattle.tangle_bodies.specs.NodeBodies.{IsBodyOf, node_bodies}
use Rattle.tangle_graph.specs.NewBodies.{AreNewBodies, IsNewBody}
use Rattle.tangle_bodies.specs.WebShapes.{shapes}
use Rattle.tangle_graph.specs.declared.bodies.GroupedWeb.{GroupedWeb}
use Rattle.tangle_graph.specs.Stores.{StoreRead}
use Rattle.std.specs.Borrow.{Bor}

-- the node has this body, and its shape is flagged if it is not that of the old store
abbrev pub IsBodyMade : GroupedWeb → Option (Bor StoreRead) → ℕ → Bool → NodeBody → Type 0
IsBodyMade grouped old node flag body =
    IsBodyOf (shapes grouped.web.now grouped.table.now) grouped.names.now node body
    × IfSome old (λ store. IsNewBody store.now grouped.names.now node flag body)

-- the relation holds of each position with the item there, if the position is flagged
abbrev pub HoldsAtEach : {X : Type 0} → (ℕ → Bool → X → Type 0) → List X → List Bool → Type 0
HoldsAtEach {X} R xs flags =
    (n : ℕ) (x : X) → slice_get xs n ≡ Some x → R n (get_or flags n false) x

each_push : {X : Type 0} (R : ℕ → Bool → X → Type 0) (xs : List X) (flags : List Bool) (x : X)
    (flag : Bool)
    → length flags ≡ length xs → HoldsAtEach R xs flags → R (length xs) flag x
    → HoldsAtEach R (xs ++ x ∷ []) (flags ++ flag ∷ [])
each_push R xs flags x flag size all one n y at = grind (arith, common_steps, gets)

pub bodies_push : (R : ℕ → Bool → NodeBody → Type 0) (bodies : List (Rc NodeBody Global)) (flags : List Bool)
    (n : ℕ) (body : Rc NodeBody Global) (flag : Bool)
    → length bodies ≡ n → length flags ≡ n → HoldsAtEach R (node_bodies bodies) flags → R n flag body.value
    → HoldsAtEach R (node_bodies (bodies ++ body ∷ [])) (flags ++ flag ∷ [])
bodies_push R bodies flags n body flag size flags_size all one =
    let count = length-map bodies (λ (t : Rc NodeBody Global). t.value) in
    grind (arith, nat_tests, map-append, each_push R)

-- the flags of all bodies, where there is an old store
pub new_of_old : (grouped : GroupedWeb) (old : Option (Bor StoreRead)) (bodies : List NodeBody) (flags : List Bool)
    → HoldsAtEach (IsBodyMade grouped old) bodies flags
    → IfSome old (λ store. AreNewBodies store.now grouped.names.now bodies flags)
new_of_old grouped None bodies flags each = tt
new_of_old grouped (Some store) bodies flags each = λ node body has. (each node body has).1
