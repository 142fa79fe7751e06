-- What a store records of a web: for each node its pieces, its uses and users, its weight and
-- depth, and whether it contains itself or reaches a name that does.
use Rattle.std.specs.Prelude.{◌≡◌, ◌≢◌, ◌<◌, ◌↔◌, ◌+◌, ℕ, Bool, true, false}
use Rattle.std.specs.Prelude.{nat_lt, nat_le, if◌then◌else◌}
use Rattle.std.specs.Prelude.{slice_get, slice_index_or, List, [], length}
use Rattle.std.specs.Prelude.{AllPairs, Contains, Option}
use Rattle.tangle_bodies.specs.Shapes.{Title, Named, Shape, Shapes, Uses}
use Rattle.std.specs.Option.{option_map}
use Rattle.tangle_expansion.specs.Expanded.{Expanded, expanded, symbols_if_any, used_titles}
use Rattle.tangle_expansion.specs.Kept.{kept_at, kept_for}
use Rattle.tangle_bodies.specs.NodeBodies.{body_uses}
use Rattle.tangle_expansion.specs.Limits.{flat_of}
use Rattle.tangle_expansion.specs.Outputs.{OutputRead}
use Rattle.tangle_bodies.specs.declared.nodes.NodeBody.{NodeBody}
use Rattle.tangle_expansion.specs.declared.kept.Kept.{Kept}
use Rattle.digraph.specs.Graph.{Graph, row_at}
use Rattle.digraph.specs.Nodes.{Node}
use Rattle.digraph.specs.Reach.{ContainsItself}
use Rattle.tangle_bodies.specs.Nodes.{title_at}
use Rattle.tangle_bodies.specs.NodeBodies.{AreBodiesOf}
use Rattle.tangle_graph.specs.Measures.{AreMeasures, measure_at}
use Rattle.tangle_bodies.specs.Nodes.{IsNodeOf}
use Rattle.tangle_graph.specs.declared.measures.Measure.{Measure}
use Rattle.std.specs.Prelude.{not}

-- the bytes of the names, and lists with an entry for each node
pub record StoreRead : Type 0 where
  pub names : List (List ℕ)
  -- the numbers of the node's pieces
  pub pieces : List (List ℕ)
  pub uses : Graph
  pub users : Graph
  pub self_containing : List Bool
  -- the node reaches no name that contains itself
  pub acyclic : List Bool
  -- the node's weight and depth, and whether it is expandable
  pub measures : List Measure
  pub outputs : List OutputRead
  -- the node's body
  pub bodies : List NodeBody

-- the node's entry in a list with a flag for each node
abbrev pub flag_at : List Bool → Node → Bool
flag_at flags node = slice_index_or flags node false

module _ (store : StoreRead) where
  abbrev pub uses_at : Node → List Node
  uses_at node = row_at store.uses node

  abbrev pub users_at : Node → List Node
  users_at node = row_at store.users node

  abbrev pub contains_itself_at : Node → Bool
  contains_itself_at node = flag_at store.self_containing node

  abbrev pub reaches_cycle_at : Node → Bool
  reaches_cycle_at node = not (flag_at store.acyclic node)

  abbrev pub weight_at : Node → ℕ
  weight_at node = (measure_at store.measures node).weight

  abbrev pub depth_at : Node → ℕ
  depth_at node = (measure_at store.measures node).depth

  -- only a node without a piece has the depth 0
  abbrev pub has_piece_at : Node → Bool
  has_piece_at node = nat_lt 0 (depth_at node)

  abbrev pub is_expandable_at : Node → Bool
  is_expandable_at node = (measure_at store.measures node).is_expandable

  abbrev pub body_at : Node → Option NodeBody
  body_at node = slice_get store.bodies node

  -- the expansion of the node's body, with what is kept for the nodes that it uses
  abbrev pub expanded_at : Kept → Node → Option Expanded
  expanded_at kept node =
      option_map (λ body. expanded body.items.value (kept_for kept (body_uses body))) (body_at node)

  abbrev pub title_in_store : Node → Title
  title_in_store node = title_at store.names node

  -- the shape of a node; a node that the store does not have has no piece
  abbrev pub shape_in_store : Shapes → Node → Shape
  shape_in_store shapes node =
      if nat_le node (length store.names) then shapes (title_in_store node) else []

  -- the node is one of the store's
  abbrev pub IsNodeIn : Node → Type 0
  IsNodeIn node = IsNodeOf store.names node

-- the node uses this one
pub record UsesNode (shapes : Shapes) (store : StoreRead) (node used : Node) : Type 0 where
  pub inside : IsNodeIn store used
  pub uses : Uses shapes (title_in_store store node) (title_in_store store used)

-- for each node that the node uses, what is kept gives its symbols; a node without a piece has none
abbrev pub KeepsUsed : Shapes → StoreRead → Kept → Node → Type 0
KeepsUsed shapes store kept node =
    (used : Node) → UsesNode shapes store node used
    → symbols_if_any (used_titles shapes) (title_in_store store used) (kept_at kept used)
    ≡ flat_of shapes (title_in_store store used)

-- The store is that of the shapes: what it records of each node holds for the node's title. For a
-- node that it does not have it gives what holds for a node without a piece.
pub record IsStoreOf (shapes : Shapes) (store : StoreRead) : Type 0 where
  -- there is one entry for each node
  pub measures_size : length store.measures ≡ length store.names + 1
  pub measures : AreMeasures shapes store.names store.measures
  pub bodies : AreBodiesOf shapes store.names store.bodies
  -- each title is that of one node, and each name that has a piece has a node
  pub once : (a b : Node) → IsNodeIn store a → IsNodeIn store b
      → title_in_store store a ≡ title_in_store store b → a ≡ b
  pub known : (name : List ℕ) → shapes (Named name) ≢ []
      → (a : Node) × IsNodeIn store a × (title_in_store store a ≡ Named name)
  pub uses : (a b : Node) → IsNodeIn store a
      → (Contains (uses_at store a) b
      ↔ (IsNodeIn store b × Uses shapes (title_in_store store a) (title_in_store store b)))
  pub users : (a b : Node) → IsNodeIn store a
      → (Contains (users_at store a) b
      ↔ (IsNodeIn store b × Uses shapes (title_in_store store b) (title_in_store store a)))
  pub uses_once : (a : Node) → IsNodeIn store a → AllPairs (λ b c. b ≢ c) (uses_at store a)
  pub users_once : (a : Node) → IsNodeIn store a → AllPairs (λ b c. b ≢ c) (users_at store a)
  pub contains_itself : (a : Node) → IsNodeIn store a
      → ((contains_itself_at store a ≡ true) ↔ ContainsItself (Uses shapes) (title_in_store store a))

-- exactly those nodes of the new store are flagged whose shape is not that of the old store
abbrev pub AreNewShapes : StoreRead → StoreRead → List Bool → Type 0
AreNewShapes old new flags =
    (before after : Shapes) → IsStoreOf before old → IsStoreOf after new
    → (node : Node) → IsNodeIn new node
    → ((flag_at flags node ≡ true)
    ↔ (after (title_in_store new node) ≢ before (title_in_store new node)))
