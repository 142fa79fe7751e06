-- Orders of the nodes of a store.
use Rattle.std.specs.Prelude.{◌≡◌, ◌≢◌, ◌<◌, ℕ, true, List, length, take, slice_index_or, AllPairs}
use Rattle.std.specs.Prelude.{Contains}
use Rattle.digraph.specs.Nodes.{Node, program}
use Rattle.tangle_graph.specs.Stores.{StoreRead, IsNodeIn, uses_at, is_expandable_at}

-- each node of the list comes once, and after the names that it uses; each expandable node is in
-- the list
pub record IsOrderIn (store : StoreRead) (order : List Node) : Type 0 where
  pub inside : (node : Node) → Contains order node → IsNodeIn store node
  pub once : AllPairs (λ b c. b ≢ c) order
  pub after : (k : ℕ) (other : Node)
      → k < length order → Contains (uses_at store (slice_index_or order k program)) other
      → Contains (take k order) other
  pub expandable : (node : Node)
      → IsNodeIn store node → is_expandable_at store node ≡ true → Contains order node
