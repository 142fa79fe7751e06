-- What holds of a node, by what holds of the nodes that its body uses.
use Rattle.std.proofs.Common.{rules}
use Rattle.std.proofs.Common.{◌≡◌, ◌∙◌, ◌≤◌, ◌+◌, ◌&&◌, ℕ, min, Bool, true, false, List, [], map}
use Rattle.std.proofs.Common.{ap, arith, sym}
use Rattle.std.specs.Prelude.{nat_le, nat_lt, sum, sum_by}
use Rattle.std.proofs.lemmas.Simd.{map-map}
use Rattle.std.proofs.lemmas.List.Sums.{sum-map}
use Rattle.digraph.specs.Nodes.{Node}
use Rattle.tangle_names.proofs.ContainsLemmas.{map_same}
use Rattle.tangle_bodies.specs.Flat.{own_weight, depth, weight}
use Rattle.tangle_bodies.specs.NodeBodies.{HoldsShape, body_uses}
use Rattle.tangle_bodies.specs.Nodes.{title_at, titles_at}
use Rattle.tangle_bodies.specs.Shapes.{Named, Shapes, Title, shape_names}
use Rattle.tangle_bodies.specs.declared.nodes.NodeBody.{NodeBody}
use Rattle.tangle_expansion.specs.Limits.{weight_cap, levels, heaviest, weight_of, depth_of}
use Rattle.tangle_expansion.proofs.SameShapes.{weight_by_uses, depth_by_uses, greatest-map}
use Rattle.tangle_graph.specs.Measures.{AreUsesMeasured, greatest_by, measure_at, measure_of, no_piece_measure}
use Rattle.tangle_graph.specs.Outputs.{shape_has_piece}
use Rattle.tangle_graph.specs.declared.measures.Measure.{Measure}
use Rattle.tangle_graph.proofs.MeasureLemmas.{depth_counted}
use Rattle.tangle_graph.proofs.NodeMeasureLemmas.{expandable_by_limits}

-- the weights and the depths that are recorded of used nodes are those of the used names
module _ (shapes : Shapes) (names : List (List ℕ)) (measures : List Measure) (nodes : List Node)
    (known : AreUsesMeasured shapes names measures nodes) (used : List (List ℕ))
    (titled : titles_at names nodes ≡ map Named used) where
  measured_alike : (part : Measure → ℕ)
      → map (λ node. part (measure_at measures node)) nodes ≡ map (λ name. part (measure_of shapes (Named name))) used
  measured_alike part =
      let of_title = λ (title : Title). part (measure_of shapes title) in
      map_same (λ node. part (measure_at measures node)) (λ node. of_title (title_at names node)) nodes
      (λ node c. ap part (known node c))
      ∙ sym (map-map of_title (title_at names) nodes) ∙ ap (map of_title) titled ∙ map-map of_title Named used

  weights_used : sum_by (λ node. (measure_at measures node).weight) nodes
      ≡ sum_by (λ name. weight_of shapes (Named name)) used
  weights_used = sym (sum-map _ nodes) ∙ ap sum (measured_alike (λ m. m.weight)) ∙ sum-map _ used

  depths_used : greatest_by (λ node. (measure_at measures node).depth) nodes
      ≡ greatest_by (λ name. depth_of shapes (Named name)) used
  depths_used = greatest-map _ nodes ∙ ap (greatest_by (λ n. n)) (measured_alike (λ m. m.depth)) ∙ sym (greatest-map _ used)

module _ (shapes : Shapes) (title : Title) where
  -- what is recorded of a node without a piece
  pub measure_without : shapes title ≡ [] → no_piece_measure ≡ measure_of shapes title
  measure_without e = search rules

  -- what is recorded of a node that reaches a cycle
  pub measure_beyond : levels ≤ depth levels shapes title → weight_cap ≤ weight weight_cap shapes title
      → record { weight = weight_cap; depth = levels; is_expandable = false } ≡ measure_of shapes title
  measure_beyond deep heavy = search (rules, depth_by_uses)

  module _ (names : List (List ℕ)) (measures : List Measure) (body : NodeBody)
      (held : HoldsShape names (shapes title) body) (known : AreUsesMeasured shapes names measures (body_uses body)) where
    pub measure_with : (own w d : ℕ) (b : Bool) → shape_has_piece (shapes title) ≡ true
        → own ≡ min weight_cap (own_weight (shapes title))
        → w ≡ min weight_cap (own + sum_by (λ node. (measure_at measures node).weight) (body_uses body))
        → d ≡ min levels (greatest_by (λ node. (measure_at measures node).depth) (body_uses body) + 1)
        → b ≡ (nat_lt d levels && nat_le w heaviest)
        → record { weight = w; depth = d; is_expandable = b } ≡ measure_of shapes title
    measure_with own w d b has counted weighs deepens within =
        let used : List (List ℕ) = shape_names (shapes title) in
        let weighed : w ≡ weight_of shapes title =
        omega (arith, weights_used shapes names measures (body_uses body) known used held.uses, weight_by_uses weight_cap shapes title) in
        let measured : d ≡ depth_of shapes title =
        omega (arith, depths_used shapes names measures (body_uses body) known used held.uses, depth_counted (λ name. depth_of shapes (Named name)) (shapes title) has, depth_by_uses levels shapes title) in
        λ i. record {
          weight = weighed i;
          depth = measured i;
          is_expandable = (within ∙ expandable_by_limits shapes title w d has weighed measured) i;
        }
