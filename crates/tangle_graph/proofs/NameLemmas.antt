-- Nodes found by name, and their shapes.
use Rattle.std.proofs.Common.{rules}
use Rattle.std.proofs.Common.{◌≡◌, ◌≢◌, ℕ, suc, Bool, List, [], ◌∷◌, None, ap, refl, arith, get_or, subst, sym, Contains}
use Rattle.std.specs.Prelude.{Option, IsSome}
use Rattle.digraph.specs.Nodes.{Node, program}
use Rattle.tangle_bodies.specs.Shapes.{Title, Named, Shape, Shapes, Uses}
use Rattle.tangle_bodies.specs.Shapes as title
use Rattle.tangle_bodies.specs.declared.nodes.NodeBody.{NodeBody}
use Rattle.tangle_graph.specs.NewBodies.{AreNewBodies}
use Rattle.tangle_graph.specs.Stores.{AreNewShapes, StoreRead, IsStoreOf, IsNodeIn, title_in_store, uses_at}
use Rattle.tangle_bodies.proofs.EachLemmas.{some_at}
use Rattle.tangle_graph.proofs.BodyLemmas.{node_used}

-- a title with a piece is the title of a node
pub node_with_piece : (shapes : Shapes) (store : StoreRead) (node : Title)
    → IsStoreOf shapes store → shapes node ≢ [] → (a : Node) × IsNodeIn store a × (title_in_store store a ≡ node)
node_with_piece shapes store title.Program is has = (program, omega arith, refl)
node_with_piece shapes store (Named name) is has = is.known name has

pub empty_unless : (s : Shape) → ((e : s ≢ []) → ⊥) → s ≡ []
empty_unless [] h = refl
empty_unless (x ∷ xs) h = absurd (h (λ e. let no : x ∷ xs ≡ [] = e in absurd (cc)))

-- a title that no node has is without a piece
pub no_shape : (shapes : Shapes) (store : StoreRead) (node : Title)
    → IsStoreOf shapes store → ((a : Node) → IsNodeIn store a → title_in_store store a ≢ node) → shapes node ≡ []
no_shape shapes store node is none =
    empty_unless (shapes node) (λ has. let at = node_with_piece shapes store node is has in none at.0 at.1 at.2)

-- each title that a node uses is that of a node among its uses
pub use_of_title : (shapes : Shapes) (store : StoreRead) (node : Node) (used : Title) → IsStoreOf shapes store
    → IsNodeIn store node → Uses shapes (title_in_store store node) used
    → (a : Node) × Contains (uses_at store node) a × (title_in_store store a ≡ used)
use_of_title shapes store node title.Program is inside u = absurd u
use_of_title shapes store node (Named name) is inside u =
    let own = some_at store.bodies node (omega arith) in
    let found = node_used shapes store.names node own.0 (is.bodies.each node own.0 own.1) name u in
    let used = subst (Uses shapes (title_in_store store node)) (sym found.3) u in
    (found.0, (is.uses node found.0 inside).1 (found.2, used), found.3)

-- the flags of the bodies of a store are those of its new shapes
pub new_shapes_of : (old store : StoreRead) (names : List (List ℕ)) (bodies : List NodeBody) (flags : List Bool)
    → store.names ≡ names → store.bodies ≡ bodies → AreNewBodies old names bodies flags → AreNewShapes old store flags
new_shapes_of old store names bodies flags named same are = λ before after before_is after_is node inside.
    let new : AreNewBodies old store.names store.bodies flags = rw (named, same) are in
    let own = some_at store.bodies node (omega arith) in
    new node own.0 own.1 before (after (title_in_store store node)) before_is
    (after_is.bodies.each node own.0 own.1).shape

pub some_unless : {X : Type 0} (o : Option X) → (o ≡ None → ⊥) → IsSome o
some_unless o h = search rules
