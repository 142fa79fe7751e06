-- Bodies of nodes, and bodies that are read by their number.
use Rattle.std.proofs.Common.{rules}
use Rattle.std.proofs.Common.{◌≡◌, ◌≢◌, ◌↔◌, ℕ, Bool, true, not, List, subst}
use Rattle.std.specs.Prelude.{Contains}
use Rattle.std.proofs.lemmas.List.Elements.{All-contains}
use Rattle.tangle_names.proofs.ContainsLemmas.{into_map, out_of_map}
use Rattle.digraph.specs.Nodes.{Node}
use Rattle.tangle_bodies.specs.Nodes.{IsNodeOf, title_at}
use Rattle.tangle_bodies.specs.NodeBodies.{HaveOneShape, HoldsShape, body_items}
use Rattle.tangle_bodies.specs.NodeBodies.{body_uses}
use Rattle.tangle_bodies.specs.Shapes.{Named, Shape, Shapes, Uses, shape_names}
use Rattle.tangle_bodies.proofs.TagLemmas.{bodies_decide}
use Rattle.tangle_bodies.specs.declared.nodes.NodeBody.{NodeBody}
use Rattle.tangle_bodies.specs.NodeBodies.{IsBodyOf}

-- the nodes that a body has are those that its node uses
module _ (shapes : Shapes) (names : List (List ℕ))
    (node : Node) (body : NodeBody) (is : IsBodyOf shapes names node body) where
  pub used_node : (used : Node) → Contains (body_uses body) used
      → Uses shapes (title_at names node) (title_at names used)
  used_node used c =
      let found = out_of_map Named (shape_names (shapes (title_at names node))) (title_at names used)
      (rw (← is.shape.uses) (into_map (title_at names) (body_uses body) used c)) in
      subst (Uses shapes (title_at names node)) found.2 found.1

  pub node_used : (name : List ℕ) → Uses shapes (title_at names node) (Named name)
      → (used : Node) × Contains (body_uses body) used × IsNodeOf names used × (title_at names used ≡ Named name)
  node_used name u =
      let found = out_of_map (title_at names) (body_uses body) (Named name)
      (rw is.shape.uses (into_map Named (shape_names (shapes (title_at names node))) name u)) in
      (found.0, found.1, All-contains (IsNodeOf names) (body_uses body) found.0 is.inside found.1, found.2)

-- whether the shape of a node that had a body is new
pub new_unless_same : (names old_names : List (List ℕ)) (body before : NodeBody) (s t : Shape) (same : Bool)
    → ((same ≡ true) ↔ HaveOneShape names old_names (body_items body) (body_items before))
    → HoldsShape names s body → HoldsShape old_names t before → ((not same ≡ true) ↔ (s ≢ t))
new_unless_same names old_names body before s t same decides held had =
    let decided = bodies_decide names old_names body before s t held had in search (rules, decided)
