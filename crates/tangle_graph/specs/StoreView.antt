-- A store, as it is read from its fields.
use Rattle.std.specs.Prelude.{map}
use Rattle.tangle_bodies.specs.NodeBodies.{body_uses}
use Rattle.tangle_bodies.specs.Shapes.{Shapes}
use Rattle.tangle_bodies.specs.NodeBodies.{node_bodies}
use Rattle.tangle_graph.specs.Ordering.{IsOrderIn}
use Rattle.tangle_graph.specs.NameGraphs.{IsNameGraphOf}
use Rattle.tangle_graph.specs.Stores.{StoreRead, IsStoreOf}
use Rattle.tangle_graph.specs.declared.store.Store.TheInside.{Inside}

abbrev pub store_read : Inside → StoreRead
store_read s = record {
  names = s.name_graph.value.names;
  pieces = s.pieces.value;
  uses = s.name_graph.value.uses;
  users = s.name_graph.value.users;
  self_containing = s.name_graph.value.self_containing.items;
  acyclic = s.name_graph.value.order.acyclic.items;
  measures = s.measures.items;
  outputs = s.outputs.items;
  bodies = node_bodies s.bodies.value.items;
}

-- The store is that of some shapes. The graph of names is that of the uses of the bodies, and its
-- order is one of the store.
pub record StoreInvariant (s : Inside) : Type 0 where
  pub shapes : Shapes
  pub store : IsStoreOf shapes (store_read s)
  pub name_graph : IsNameGraphOf (map body_uses (node_bodies s.bodies.value.items))
      s.name_graph.value
  pub order : IsOrderIn (store_read s) s.name_graph.value.order.nodes.items
