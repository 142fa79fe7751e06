-- What the functions compute of cycles is what holds along the uses of a web.
use Rattle.std.proofs.Common.{rules}
use Rattle.std.proofs.Common.{◌≡◌, ℕ, zero, suc, List, [], arith, get_or, map, subst, Contains}
use Rattle.std.specs.Bool.{Decides}
use Rattle.std.proofs.lemmas.List.Elements.{All-contains, Contains-get_or}
use Rattle.std.proofs.lemmas.Map.Views.{Contains-from_any, list_any-from_Contains}
use Rattle.std.proofs.lemmas.Slice.Eq.{bytes_eq-Decides}
use Rattle.std.proofs.lemmas.Cmp.{nat_list_eq_equiv}
use Rattle.digraph.proofs.ComputedReach as computed
use Rattle.digraph.specs.Reach.{ContainsItself, ReachesCycle}
use Rattle.tangle_scan.specs.Web.{WebRead}
use Rattle.tangle_names.specs.NameTable.{TableRead, table_of}
use Rattle.tangle_names.proofs.ContainsLemmas.{into_map, out_of_map}
use Rattle.digraph.specs.Nodes.{Node}
use Rattle.tangle_bodies.specs.ItemTags.{pieces_uses}
use Rattle.tangle_bodies.specs.Nodes.{IsNodeOf, title_at}
use Rattle.tangle_bodies.specs.Shapes.{Title, Named, Shapes, Uses, shape_names}
use Rattle.tangle_bodies.specs.Shapes as title
use Rattle.tangle_bodies.specs.WebShapes.{pieces_of, shapes}
use Rattle.tangle_bodies.proofs.HeldLemmas.{titles_held}
use Rattle.tangle_graph.specs.Cycles.{contains_itself, has_use, reaches_cycle}
use Rattle.tangle_graph.proofs.GraphLemmas.{resolves_inside}
use Rattle.tangle_graph.proofs.GroupLemmas.{pieces_below}

use_decided : (all : Shapes) (a b : Title) → Decides (has_use all a b) (Uses all a b)
use_decided all a title.Program = search rules
use_decided all a (Named name) = (
  Contains-from_any (λ x y. (bytes_eq-Decides x y).0) name (shape_names (all a)),
  list_any-from_Contains nat_list_eq_equiv name (shape_names (all a)),
)

module _ (web : WebRead) (table : TableRead) (ours : table ≡ table_of web) where
  abbrev all : Shapes
  all = shapes web table

  -- each used name is in the table
  name_in : (node : Node) (name : List ℕ) → IsNodeOf table.names node → title_at table.names node ≡ Named name
      → Contains (map Named table.names) (Named name)
  name_in zero name low same = search rules
  name_in (suc id) name low same = subst (Contains (map Named table.names)) same
      (into_map Named table.names (get_or table.names id []) (Contains-get_or table.names id [] (omega arith)))

  among : (a b : Title) → Uses all a b → Contains (map Named table.names) b
  among a title.Program u = absurd u
  among a (Named name) u =
      let pieces = pieces_of web table a in
      let uses = pieces_uses table pieces in
      let used = out_of_map (title_at table.names) uses (Named name)
      (rw (titles_held web.texts table pieces) (into_map Named (shape_names (all a)) name u)) in
      name_in used.0 name (All-contains (IsNodeOf table.names) uses used.0
      (pieces_below table (resolves_inside web table ours) pieces) used.1) used.2

  pub contains_computed : (a : Title) → Decides (contains_itself all table.names a) (ContainsItself (Uses all) a)
  unfolding contains_itself
  contains_computed = computed.contains_decided (Uses all) (has_use all) (use_decided all) (map Named table.names) among

  pub cycle_computed : (a : Title) → Decides (reaches_cycle all table.names a) (ReachesCycle (Uses all) a)
  unfolding reaches_cycle
  cycle_computed = computed.cycle_decided (Uses all) (has_use all) (use_decided all) (map Named table.names) among
